-- The models that made logs are run with.
use Rattle.std.specs.Prelude.{List, ℕ, codes}

-- eight messages with one argument, all in turn, and the last with no first behind it
abbrev pub drill_models_text : List ℕ
drill_models_text = codes "message m0 1\nmessage m1 1\nmessage m2 1\nmessage m3 1\nmessage m4 1\nmessage m5 1\nmessage m6 1\nmessage m7 1\nchronicle chain {\n  event(m0[?u], t0) level 1\n  event(m1[?u], t1) level 1\n  event(m2[?u], t2) level 1\n  event(m3[?u], t3) level 1\n  event(m4[?u], t4) level 1\n  event(m5[?u], t5) level 1\n  event(m6[?u], t6) level 1\n  event(m7[?u], t7)\n  t1 - t0 in [0, 100]\n  t2 - t1 in [0, 100]\n  t3 - t2 in [0, 100]\n  t4 - t3 in [0, 100]\n  t5 - t4 in [0, 100]\n  t6 - t5 in [0, 100]\n  t7 - t6 in [0, 100]\n}\nchronicle quiet {\n  event(m7[?u], t0)\n  noevent(m0[?u], (t0 + 1, t0 + 60))\n}\n"
