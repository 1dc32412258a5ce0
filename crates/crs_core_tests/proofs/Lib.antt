mod Fixture
