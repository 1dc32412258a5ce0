-- What each line adds to the audit of an output.
use Rattle.std.proofs.Common.{◌≡◌, ◌∙◌, ℕ, ◌+◌, suc, Bool, List, ◌∷◌, length, refl, sym, ap, subst, arith, inl, inr, Option, Some, None}
use Rattle.std.specs.Prelude.{Err, if◌then◌else◌}
use Rattle.crs_base.specs.Lines.{Line, bytes_of}
use Rattle.crs_audit.specs.declared.words.AuditWord.{AuditWord}
use Rattle.crs_audit.specs.declared.words.AuditWord.TheVariants as words
use Rattle.crs_audit.specs.Audits.{Ground, Earlier, Answer, IsVerdict, IsLineAudit, IsAuditFrom}
use Rattle.crs_audit.specs.Claims.{Said, Other, Formless, Claims, said_of}
use Rattle.crs_audit.specs.JudgedClaims.{IfFaultless}
use Rattle.crs_audit.specs.Noted.{AreNoted}
use Rattle.crs_audit.specs.Telling.{IsToldOf}

-- the claims before some lines of an output: they are noted, and the audit of those lines is the audit of all
pub record Stands (texts keys : List (List ℕ)) (claims : ℕ) (From : List Earlier → Answer → Type 0) (All : Answer → Type 0) : Type 0 where
  pub earlier : List Earlier
  pub noted : AreNoted texts keys earlier
  pub many : length earlier ≡ claims
  pub on : (answer : Answer) → From earlier answer → All answer

module _ (texts : List (List ℕ)) (g : Ground) (n : ℕ) (All : Answer → Type 0) (l : Line) (ls : List Line) where
  -- one line more
  pub one_line : (old new : List (List ℕ)) (claims more : ℕ) (told : Bool × Option AuditWord) → more ≡ (if told.0 then claims + 1 else claims) → told.1 ≡ None
      → (s : Stands texts old claims (λ earlier answer. IsAuditFrom g n earlier (l ∷ ls) answer) All) → IsToldOf texts new g s.earlier (bytes_of l) (said_of l) told
      → Stands texts new more (λ earlier answer. IsAuditFrom g (n + 1) earlier ls answer) All
  one_line old new claims more told e clean s t = by (said_of l) t s.on
    where
      by : (said : Said) → IsToldOf texts new g s.earlier (bytes_of l) said told
          → ((answer : Answer) → IsLineAudit g n s.earlier (bytes_of l) said answer (λ claims. IsAuditFrom g (n + 1) claims ls answer) → All answer)
          → Stands texts new more (λ earlier answer. IsAuditFrom g (n + 1) earlier ls answer) All
      by Other h on = record {
        earlier = s.earlier;
        noted = h.2;
        many = s.many ∙ sym (e ∙ ap (λ (b : Bool). if b then claims + 1 else claims) h.0);
        on = on;
      }
      by Formless h on = let q : Some words.Form ≡ None = sym h.1 ∙ clean in absurd cc
      by (Claims claim) h on = record {
        earlier = (claim.name, claim.numbers) ∷ s.earlier;
        noted = subst (λ (o : Option AuditWord). IfFaultless o (AreNoted texts new ((claim.name, claim.numbers) ∷ s.earlier))) clean h.2;
        many = (let m = s.many in let k : suc (length s.earlier) ≡ claims + 1 = omega arith in k) ∙ sym (e ∙ ap (λ (b : Bool). if b then claims + 1 else claims) h.0);
        on = λ answer rest. on answer (inr (subst (IsVerdict g s.earlier (bytes_of l) claim) clean h.1, rest));
      }

  -- a line with a fault
  pub fault_there : (old new : List (List ℕ)) (claims : ℕ) (told : Bool × Option AuditWord) (word : AuditWord) → told.1 ≡ Some word
      → (s : Stands texts old claims (λ earlier answer. IsAuditFrom g n earlier (l ∷ ls) answer) All) → IsToldOf texts new g s.earlier (bytes_of l) (said_of l) told → All (Err (n, word))
  fault_there old new claims told word e s t = by (said_of l) t s.on
    where
      by : (said : Said) → IsToldOf texts new g s.earlier (bytes_of l) said told
          → ((answer : Answer) → IsLineAudit g n s.earlier (bytes_of l) said answer (λ claims. IsAuditFrom g (n + 1) claims ls answer) → All answer) → All (Err (n, word))
      by Other h on = let q : None ≡ Some word = sym h.1 ∙ e in absurd cc
      by Formless h on = let q : Some words.Form ≡ Some word = sym h.1 ∙ e in let w : words.Form ≡ word = cc in on (Err (n, word)) (λ i. Err (n, sym w i))
      by (Claims claim) h on = on (Err (n, word)) (inl (word, subst (IsVerdict g s.earlier (bytes_of l) claim) e h.1, refl))
