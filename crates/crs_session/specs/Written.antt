-- What is written for lines: their text, and the recognitions whose lines stand in it.
use Rattle.std.specs.Prelude.{ℕ, ◌<◌, List, [], ◌++◌, length}
use Rattle.crs_model.specs.declared.recognition.Recognition.{Recognition}

pub record Written : Type 0 where
  pub text : List ℕ
  pub found : List Recognition

abbrev pub unwritten : Written
unwritten = record { text = []; found = [] }

-- behind it a text that tells of no recognition
abbrev pub with_text : Written → List ℕ → Written
with_text w text = record w { text = w.text ++ text }

-- behind it the text of these recognitions
abbrev pub with_answer : Written → List ℕ → List Recognition → Written
with_answer w text answer = record { text = w.text ++ text; found = w.found ++ answer }

-- the one behind the other
abbrev pub joined : Written → Written → Written
joined a b = with_answer a b.text b.found

abbrev pub HasEntry : Recognition → Type 0
HasEntry r = 0 < length r.entries
