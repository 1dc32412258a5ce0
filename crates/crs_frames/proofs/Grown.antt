-- The table of symbols grows, and the models stay the same.
use Rattle.std.proofs.Common.{◌≡◌, ◌<◌, ℕ, zero, suc, cond, Bool, true, false, List, [], ◌∷◌, ◌++◌, map}
use Rattle.std.proofs.Common.{length, refl, sym, ap, ◌∙◌, arith, append-nil, append_assoc, get_or, length-append}
use Rattle.std.specs.Prelude.{Some, None}
use Rattle.std.specs.List.{AllByRecursion}
use Rattle.crs_base.specs.declared.symbols.Sym.{Sym}
use Rattle.crs_base.specs.Symbols.{is_known, with_text, AreDistinct, with_texts}
use Rattle.crs_model.specs.declared.plan.Plan.{Plan}
use Rattle.crs_model.specs.declared.plan.Plans.{Plans}
use Rattle.crs_model.specs.declared.models.Name.{Name as CodeName}
use Rattle.crs_model.specs.declared.models.Kind.{Kind as CodeKind}
use Rattle.crs_model.specs.declared.models.Kind.TheVariants.{Message as CodeMessage, Attribute as CodeAttribute}
use Rattle.crs_model.specs.SeenModels.{name_of}
use Rattle.crs_model.specs.Plans.{chronicle}
use Rattle.crs_model.specs.Renaming.{text_in, IsChronicleOf}
use Rattle.crs_model.proofs.Agreed.{all_same, same_chronicle, same_name, chronicle_more}
use Rattle.crs_engine.specs.Engines.{plans_of}
use Rattle.crs_log.specs.SeenNames.{name_seen, IsKindIn, AreNamesIn}
use Rattle.crs_layers.specs.Standing.{HasText}
use Rattle.crs_frames.specs.TableTexts.{chronicle_in, HasModels}
use Rattle.crs_frames.specs.Frames.{Frame}

-- the table once texts are there is the table with some behind it
text_grows : (texts : List (List ℕ)) (t : List ℕ) (b : Bool) → (more : List (List ℕ)) × (cond b texts (texts ++ t ∷ []) ≡ texts ++ more)
text_grows texts t true = ([], sym (append-nil texts))
text_grows texts t false = (t ∷ [], refl)

pub texts_grow : (texts ts : List (List ℕ)) → (more : List (List ℕ)) × (with_texts texts ts ≡ texts ++ more)
texts_grow texts [] = ([], sym (append-nil texts))
texts_grow texts (t ∷ ts) =
    let first = text_grows texts t (is_known texts t) in
    let rest = texts_grow (with_text texts t) ts in
    (first.0 ++ rest.0, rest.1 ∙ ap (λ (xs : List (List ℕ)). xs ++ rest.0) first.1 ∙ append_assoc texts first.0 rest.0)

module _ (texts more : List (List ℕ)) where
  abbrev grown : List (List ℕ)
  grown = texts ++ more

  has_more : (s : Sym) → HasText texts s → HasText grown s
  has_more s h = omega (arith, length-append texts more)

  at_front : (xs : List (List ℕ)) (n : ℕ) → n < length xs → get_or xs n [] ≡ get_or (xs ++ more) n []
  at_front [] n h = absurd (omega arith)
  at_front (x ∷ xs) zero h = refl
  at_front (x ∷ xs) (suc n) h = at_front xs n (omega arith)

  same_text : (s : Sym) → HasText texts s → text_in texts s ≡ text_in grown s
  same_text s h = at_front texts s.0 h

  all_more : (xs : List Sym) → AllByRecursion (HasText texts) xs → AllByRecursion (HasText grown) xs
  all_more [] h = tt
  all_more (x ∷ xs) h = (has_more x h.0, all_more xs h.1)

  kind_more : (k : CodeKind) → IsKindIn texts k → IsKindIn grown k
  kind_more CodeMessage h = tt
  kind_more (CodeAttribute None) h = tt
  kind_more (CodeAttribute (Some values)) h = all_more values h

  names_more : (ns : List CodeName) → AreNamesIn texts ns → AreNamesIn grown ns
  names_more [] h = tt
  names_more (n ∷ ns) h = (record { name = has_more n.name h.0.name; kind = kind_more n.kind h.0.kind }, names_more ns h.1)

  names_same : (ns : List CodeName) → AreNamesIn texts ns → map (name_seen texts) ns ≡ map (name_seen grown) ns
  names_same [] h = refl
  names_same (n ∷ ns) h = λ i. same_name (text_in texts) (text_in grown) (HasText texts) same_text (name_of n) h.0 i ∷ names_same ns h.1 i

  chronicles_more : (ps : List Plan) → AllByRecursion (λ p. IsChronicleOf (HasText texts) (chronicle p)) ps → AllByRecursion (λ p. IsChronicleOf (HasText grown) (chronicle p)) ps
  chronicles_more [] h = tt
  chronicles_more (p ∷ ps) h = (chronicle_more (HasText texts) (HasText grown) has_more (chronicle p) h.0, chronicles_more ps h.1)

  -- the models are the same by the grown table
  pub models_grown : (f : Frame) (plans : Plans) (limit : ℕ) → HasModels f plans (record { texts = texts; limit = limit }) → AreDistinct grown → HasModels f plans (record { texts = grown; limit = limit })
  models_grown f plans limit m distinct = record {
    proper = m.proper;
    names = m.names ∙ names_same plans.names m.names_in;
    arities = m.arities;
    names_in = names_more plans.names m.names_in;
    names_few = m.names_few;
    chronicles = m.chronicles ∙ all_same (chronicle_in texts) (chronicle_in grown) (λ p. IsChronicleOf (HasText texts) (chronicle p)) (plans_of plans)
        (λ p h. same_chronicle (text_in texts) (text_in grown) (HasText texts) same_text (chronicle p) h) m.chronicles_in;
    chronicles_in = chronicles_more (plans_of plans) m.chronicles_in;
    distinct = distinct;
    limit = m.limit;
  }
