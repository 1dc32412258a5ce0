-- The lines that are left, one by one.
use Rattle.std.proofs.Common.{◌≡◌, ◌+◌, ◌-◌, ◌<◌, ◌++◌, ℕ, suc, List, codes, arith, append_assoc, sym, subst, refl}
use Rattle.crs_drill.specs.Drill.{State, grown, line_of, behind_line, clock_text, lines_behind}

step : (k n : ℕ) (s : State) → k < n → lines_behind k (n - k) s ≡ line_of (grown s) ++ clock_text (k + 1) (behind_line (grown s)) ++ lines_behind (k + 1) (n - (k + 1)) (behind_line (grown s))
unfolding lines_behind
step k n s h = let e : n - k ≡ suc (n - (k + 1)) = omega arith in rw e refl

regrouped : (out out2 out3 left line clock rest text : List ℕ) → out ++ left ≡ text → left ≡ line ++ clock ++ rest → out2 ≡ out ++ line → out3 ≡ out2 ++ clock → out3 ++ rest ≡ text
regrouped out out2 out3 left line clock rest text t e b d = rw (d, b) (simp append_assoc (simp append_assoc at (rw e at t)))

-- a line and its clock mark, written behind what is there
pub one_more : (k n : ℕ) (s s2 : State) (out out2 out3 text : List ℕ) → k < n → out ++ lines_behind k (n - k) s ≡ text
    → out2 ≡ out ++ line_of (grown s) → s2 ≡ behind_line (grown s) → out3 ≡ out2 ++ clock_text (k + 1) s2
    → out3 ++ lines_behind (k + 1) (n - (k + 1)) s2 ≡ text
one_more k n s s2 out out2 out3 text h t b a d =
    let told = subst (λ (z : State). out3 ≡ out2 ++ clock_text (k + 1) z) a d in
    subst (λ (z : State). out3 ++ lines_behind (k + 1) (n - (k + 1)) z ≡ text) (sym a)
    (regrouped out out2 out3 (lines_behind k (n - k) s) (line_of (grown s)) (clock_text (k + 1) (behind_line (grown s))) (lines_behind (k + 1) (n - (k + 1)) (behind_line (grown s))) text t (step k n s h) b told)

-- no line is left, and `end` comes
pub no_more : (k n : ℕ) (s : State) (out text : List ℕ) → n ≡ k → out ++ lines_behind k (n - k) s ≡ text → out ++ codes "end\n" ≡ text
unfolding lines_behind
no_more k n s out text h t = let e : n - k ≡ 0 = omega arith in rw e at t
