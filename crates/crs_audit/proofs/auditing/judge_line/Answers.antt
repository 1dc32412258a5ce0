use Rattle.std.proofs.Common.{◌≡◌, ◌∙◌, ℕ, true, List, map, refl, sym, ap, subst}
use Rattle.std.specs.Prelude.{vec_items}
use Rattle.crs_base.specs.Lines.{bytes_of}
use Rattle.crs_base.specs.SeenLines.{line_seen}
use Rattle.crs_audit.specs.Audits.{IsVerdict}
use Rattle.crs_audit.specs.Claims.{Said, Claims, said_of}
use Rattle.crs_audit.specs.SeenClaims.{claim_seen, said_seen}
use Rattle.crs_audit.specs.Telling.{IsToldOf}
use Rattle.crs_audit.proofs.auditing.judge_line.Goals as goal

pub returns-in_ok-judge-in-Claims : goal.returns-in_ok-judge-in-Claims
returns-in_ok-judge-in-Claims c = λ g earlier ground noted.
    let texts = c.args.ground.now.symbols.now.texts in
    let new = map vec_items c.judge.new.noted.keys in
    let l = line_seen c.args.line in
    let claim = claim_seen c.in-Claims.claim in
    let verdict = c.in_ok-judge-in-Claims.field-0 in
    let r = c.in_ok-judge-in-Claims.ensures g earlier ground noted in
    let told : said_seen c.in_ok-read_claim.field-0 ≡ said_of l = c.in_ok-read_claim.ensures in
    let said : Claims claim ≡ said_of l = sym (ap said_seen c.in-Claims.is) ∙ told in
    subst (λ (s : Said). IsToldOf texts new g earlier (bytes_of l) s (true, verdict)) said
    (refl, subst (λ (bytes : List ℕ). IsVerdict g earlier bytes claim verdict) c.line_bytes.ensures r.0, r.1)
