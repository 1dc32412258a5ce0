mod Calmly
