-- What a text that is accepted prepares.
use Rattle.std.proofs.Common.{◌≡◌, ◌∙◌, ap, sym, refl, subst, inl, inr, ℕ, ◌≤◌, Bool, List, [], ◌∷◌, map, length, Some, arith, true}
use Rattle.std.specs.List.{AllByRecursion}
use Rattle.std.specs.declared.rc.Rc.{Rc}
use Rattle.std.proofs.Common.{Global}
use Rattle.std.proofs.lemmas.List.{length-map, take-map}
use Rattle.std.specs.Prelude.{take, zip}
use Rattle.crs_base.specs.Symbols.{Table, AreDistinct}
use Rattle.crs_base.specs.declared.symbols.Sym.{Sym}
use Rattle.crs_base.proofs.Alls.{all_left}
use Rattle.crs_stn.specs.Bound.{IsConsistent}
use Rattle.crs_model.specs.declared.chronicle.Chronicle.{Chronicle as CodeChronicle}
use Rattle.crs_model.specs.declared.models.Models.{Models as CodeModels}
use Rattle.crs_model.specs.declared.models.Name.{Name as CodeName}
use Rattle.crs_model.specs.declared.models.ModelRefused.{ModelRefused}
use Rattle.crs_model.specs.declared.models.ModelWord.TheVariants.{Hierarchy}
use Rattle.crs_model.specs.declared.models.ModelRefused.TheVariants.{At, Memory}
use Rattle.crs_model.specs.declared.plan.Plan.{Plan}
use Rattle.crs_model.specs.declared.plan.Plans.{Plans}
use Rattle.crs_model.specs.Hierarchy.{IsEmitLine, AreStrata}
use Rattle.crs_model.specs.Models.{Emit, Chronicle, Name}
use Rattle.crs_model.specs.ProperModels.{AreProper}
use Rattle.crs_model.specs.Plans.{chronicle, IsProper}
use Rattle.crs_model.specs.Renaming.{text_in, renamed_emit, renamed_chronicle, renamed_name, renamed_models, IsChronicleOf}
use Rattle.crs_model.specs.SeenModels.{chronicle_of, name_of, models_of}
use Rattle.crs_log.specs.SeenNames.{name_seen, AreNamesIn}
use Rattle.crs_parse.specs.Meant.{models_read}
use Rattle.crs_compile.specs.Compiled.{chronicles_in, ClosesFirst, IsModelsRefusal}
use Rattle.crs_compile.proofs.InTime.{lags_are}
use Rattle.crs_model.specs.ShortLags.{AreLags, AreInTime, AreSlow, HaveShortLags}
use Rattle.crs_model.proofs.RenamedLags.{lags_on, strata_on, in_time_on, closes_slow_on}
use Rattle.crs_engine.specs.Engines.{plans_of}
use Rattle.crs_layers.specs.LayerPlans.{placed_of}
use Rattle.crs_layers.specs.Standing.{HasText, placed_in}
use Rattle.crs_layers.specs.Strata.{Placed}
use Rattle.crs_frames.specs.Frames.{placed_by, Frame}
use Rattle.crs_frames.specs.TableTexts.{chronicle_in, HasModels}
use Rattle.crs_outcomes.specs.ModelTexts.{GiveNothing, IsAccepted, ClosesInconsistent, IsFaulty, BreaksRuleText, IsFaultyText}
use Rattle.crs_outcomes.specs.ReadPlans.{AreReadIn, AreLonePlans}
use Rattle.crs_parse.specs.ModelSteps.{HaltsWith}

-- the refusals
pub closes_inconsistent : (texts : List (List ℕ)) (cs : List CodeChronicle) (line : ℕ) → ClosesFirst cs line → ClosesInconsistent (map (renamed_chronicle (text_in texts)) (map chronicle_of cs)) line
closes_inconsistent texts [] line h = h
closes_inconsistent texts (c ∷ cs) line (inl h) = inl h
closes_inconsistent texts (c ∷ cs) line (inr h) = inr (h.0, closes_inconsistent texts cs line h.1)

-- no two symbols of the table have one text
apart : (texts : List (List ℕ)) → AreDistinct texts → (x y : Sym) → HasText texts x → HasText texts y → text_in texts x ≡ text_in texts y → x ≡ y
apart texts distinct x y p q e = ap (λ n. record { 0 = n }) (distinct x.0 y.0 p q e)

consistent_seen : (texts : List (List ℕ)) (cs : List CodeChronicle) → AllByRecursion (λ c. IsConsistent c.bounds) cs → AllByRecursion (λ c. IsConsistent c.bounds) (map (renamed_chronicle (text_in texts)) (map chronicle_of cs))
consistent_seen texts [] h = tt
consistent_seen texts (c ∷ cs) h = (h.0, consistent_seen texts cs h.1)

pub compile_faulty : (symbols : ℕ) (text : List ℕ) (m : CodeModels) (table : Table) → AreReadIn symbols text m table → (e : ModelRefused) → IsModelsRefusal m.chronicles e → BreaksRuleText symbols text e
compile_faulty symbols text m table is (At line word) (inl h) = inr (renamed_models (text_in table.texts) (models_of m), table.texts, is.read, inl (h.0, closes_inconsistent table.texts m.chronicles line h.1))
compile_faulty symbols text m table is (At line word) (inr h) = inr (
  renamed_models (text_in table.texts) (models_of m),
  table.texts,
  is.read,
  inr (h.0, consistent_seen table.texts m.chronicles h.1, closes_slow_on (text_in table.texts) (HasText table.texts) (apart table.texts is.distinct) (map chronicle_of m.chronicles) line is.numbered.chronicles h.2),
)
compile_faulty symbols text m table is Memory h = tt

-- the lags of the chronicles with texts
pub in_time_models : (symbols : ℕ) (text : List ℕ) (m : CodeModels) (table : Table) → AreReadIn symbols text m table → AreInTime Sym (map chronicle_of m.chronicles) → AreInTime (List ℕ) (map (renamed_chronicle (text_in table.texts)) (map chronicle_of m.chronicles))
in_time_models symbols text m table is h = in_time_on (text_in table.texts) (HasText table.texts) (apart table.texts is.distinct) (map chronicle_of m.chronicles) is.numbered.chronicles h

-- a text with a fault
pub read_faulty : (symbols : ℕ) (text : List ℕ) (e : ModelRefused) → HaltsWith e (models_read symbols [] text) → BreaksRuleText symbols text e
read_faulty symbols text (At line word) h = inl h
read_faulty symbols text Memory h = tt

-- chronicles by their plans
chronicles_by : (texts : List (List ℕ)) (ps : List Plan) → map (chronicle_in texts) ps ≡ map (renamed_chronicle (text_in texts)) (map chronicle_of (map (λ p. p.chronicle) ps))
chronicles_by texts [] = refl
chronicles_by texts (p ∷ ps) = ap (λ (cs : List (Chronicle (List ℕ))). chronicle_in texts p ∷ cs) (chronicles_by texts ps)

known_by : (texts : List (List ℕ)) (ps : List Plan) → AllByRecursion (IsChronicleOf (HasText texts)) (map chronicle_of (map (λ p. p.chronicle) ps)) → AllByRecursion (λ p. IsChronicleOf (HasText texts) (chronicle p)) ps
known_by texts [] h = tt
known_by texts (p ∷ ps) h = (h.0, known_by texts ps h.1)

names_by : (texts : List (List ℕ)) (ns : List CodeName) → map (renamed_name (text_in texts)) (map name_of ns) ≡ map (name_seen texts) ns
names_by texts [] = refl
names_by texts (n ∷ ns) = ap (λ (xs : List (Name (List ℕ))). name_seen texts n ∷ xs) (names_by texts ns)

arities_by : (ns : List CodeName) → AllByRecursion (λ n. n.arity ≤ 8) (map name_of ns) → AllByRecursion (λ n. n.arity ≤ 8) ns
arities_by [] h = tt
arities_by (n ∷ ns) h = (h.0, arities_by ns h.1)

consistent_by : (texts : List (List ℕ)) (ps : List Plan) → AllByRecursion IsProper ps → AllByRecursion (λ c. IsConsistent c.bounds) (map (chronicle_in texts) ps)
consistent_by texts [] h = tt
consistent_by texts (p ∷ ps) h = (h.0.consistent, consistent_by texts ps h.1)

-- whole dates meet the bounds of models that were compiled
pub consistent_models : (texts : List (List ℕ)) (m : CodeModels) (plans : List (Rc Plan Global)) → chronicles_in plans ≡ m.chronicles → AllByRecursion IsProper (map (λ r. r.value) plans)
    → AllByRecursion (λ c. IsConsistent c.bounds) (map (renamed_chronicle (text_in texts)) (map chronicle_of m.chronicles))
consistent_models texts m plans e made =
    subst (λ (cs : List CodeChronicle). AllByRecursion (λ c. IsConsistent c.bounds) (map (renamed_chronicle (text_in texts)) (map chronicle_of cs))) e (subst (AllByRecursion (λ c. IsConsistent c.bounds)) (chronicles_by texts (map (λ r. r.value) plans)) (consistent_by texts (map (λ r. r.value) plans) made))

pub by_value : (F : Plan → Type 0) (rs : List (Rc Plan Global)) → AllByRecursion F (map (λ r. r.value) rs) → AllByRecursion (λ r. F r.value) rs
by_value F [] h = tt
by_value F (r ∷ rs) h = (h.0, by_value F rs h.1)

-- there are as many plans as chronicles
pub plans_few : (m : CodeModels) (plans : List (Rc Plan Global)) → chronicles_in plans ≡ m.chronicles → AreProper (models_of m) → length plans ≤ 64
plans_few m plans e p =
    let a = ap length e in
    omega (arith, a, length-map (map (λ (r : Rc Plan Global). r.value) plans) (λ (q : Plan). q.chronicle), length-map plans (λ (r : Rc Plan Global). r.value), length-map m.chronicles chronicle_of, p.chronicles_few)

-- what breaks a rule of models is at fault for a run
pub broken_faulty : (symbols : ℕ) (text : List ℕ) (e : ModelRefused) → BreaksRuleText symbols text e → IsFaultyText symbols text e
broken_faulty symbols text (At line word) h = inl h
broken_faulty symbols text Memory h = tt

-- no chronicle gives entries, by the texts of symbols
none_emits_in : (texts : List (List ℕ)) (cs : List CodeChronicle) → AllByRecursion (λ c. c.emits ≡ []) (map chronicle_of cs)
    → AllByRecursion (λ c. c.emits ≡ []) (map (renamed_chronicle (text_in texts)) (map chronicle_of cs))
none_emits_in texts [] h = tt
none_emits_in texts (c ∷ cs) h = (ap (map (renamed_emit (text_in texts))) h.0, none_emits_in texts cs h.1)

emit_line_in : (texts : List (List ℕ)) (cs : List CodeChronicle) (line : ℕ) → IsEmitLine (map chronicle_of cs) (Some line) → IsEmitLine (map (renamed_chronicle (text_in texts)) (map chronicle_of cs)) (Some line)
emit_line_in texts [] line h = h
emit_line_in texts (c ∷ cs) line (inl h) = inl (ap (map (renamed_emit (text_in texts))) h.0, emit_line_in texts cs line h.1)
emit_line_in texts (c ∷ cs) line (inr h) = inr ((λ e. h.0 (unmapped (chronicle_of c).emits e)), h.1)
  where
    unmapped : (es : List (Emit Sym)) → map (renamed_emit (text_in texts)) es ≡ [] → es ≡ []
    unmapped [] e = refl
    unmapped (x ∷ es) e = absurd cc

plan_chronicles : (plans : List (Rc Plan Global)) → map (λ r. chronicle r.value) plans ≡ map chronicle_of (chronicles_in plans)
plan_chronicles [] = refl
plan_chronicles (r ∷ rs) = ap (λ (cs : List (Chronicle Sym)). chronicle r.value ∷ cs) (plan_chronicles rs)

-- none of the models' chronicles gives entries, as none of the plans' does
none_emit : (plans : List (Rc Plan Global)) (cs : List CodeChronicle) → chronicles_in plans ≡ cs → AllByRecursion (λ c. c.emits ≡ []) (map (λ r. chronicle r.value) plans)
    → AllByRecursion (λ c. c.emits ≡ []) (map chronicle_of cs)
none_emit plans cs e h = subst (AllByRecursion (λ c. c.emits ≡ [])) (plan_chronicles plans ∙ ap (map chronicle_of) e) h

-- the first chronicle that gives entries is at fault for a run
pub emits_faulty : (symbols : ℕ) (text : List ℕ) (m : CodeModels) (table : Table) (is : AreReadIn symbols text m table) (plans : List (Rc Plan Global)) (e : chronicles_in plans ≡ m.chronicles)
    → AllByRecursion IsProper (map (λ r. r.value) plans) → AreInTime Sym (map chronicle_of m.chronicles) → (line : ℕ) → IsEmitLine (map (λ r. chronicle r.value) plans) (Some line)
    → IsFaulty symbols text line Hierarchy
emits_faulty symbols text m table is plans e made in_time line h =
    inr (
      refl,
      (
        renamed_models (text_in table.texts) (models_of m),
        record { texts = table.texts; read = is.read; consistent = consistent_models table.texts m plans e made; in_time = in_time_models symbols text m table is in_time },
        emit_line_in table.texts m.chronicles line (subst (λ (cs : List (Chronicle Sym)). IsEmitLine cs (Some line)) (plan_chronicles plans ∙ ap (map chronicle_of) e) h),
      ),
    )

-- the chronicles of plans with their strata and lags, by the texts of symbols
placed_same : (texts : List (List ℕ)) (ps : List Plan) (ks : List ℕ)
    → map (placed_in texts) (placed_of ps ks) ≡ placed_by (map (renamed_chronicle (text_in texts)) (map chronicle ps)) ks (map (λ p. p.lag) ps)
placed_same texts [] ks = refl
placed_same texts (p ∷ ps) [] = refl
placed_same texts (p ∷ ps) (k ∷ ks) =
    ap (λ (qs : List (Placed (List ℕ))). record { chronicle = chronicle_in texts p; stratum = k; lag = p.lag } ∷ qs) (placed_same texts ps ks)

-- the models of a text, as they were read and compiled
module _ (cite : Bool) (symbols entries : ℕ) (text : List ℕ) (m : CodeModels) (table : Table) (plans : Plans)
    (is : AreReadIn symbols text m table)
    (names : plans.names ≡ m.names) (chronicles : chronicles_in plans.plans ≡ m.chronicles) (made : AllByRecursion IsProper (plans_of plans))
    (lags : HaveShortLags (plans_of plans)) where
  abbrev pub frame : Frame
  frame = record {
    models = renamed_models (text_in table.texts) (models_of m);
    texts = table.texts;
    placed = map (placed_in table.texts) (placed_of (plans_of plans) lags.0);
    symbols = symbols;
    entries = entries;
    cite = cite;
  }

  chronicles_are : frame.models.chronicles ≡ map (chronicle_in table.texts) (plans_of plans)
  chronicles_are = ap (λ (cs : List CodeChronicle). map (renamed_chronicle (text_in table.texts)) (map chronicle_of cs)) (sym chronicles) ∙ sym (chronicles_by table.texts (plans_of plans))

  consistent : AllByRecursion (λ c. IsConsistent c.bounds) frame.models.chronicles
  consistent = consistent_models table.texts m plans.plans chronicles made

  pub known_plans : AllByRecursion (λ p. IsChronicleOf (HasText table.texts) (chronicle p)) (plans_of plans)
  known_plans = known_by table.texts (plans_of plans) (subst (λ (cs : List CodeChronicle). AllByRecursion (IsChronicleOf (HasText table.texts)) (map chronicle_of cs)) (sym chronicles) is.numbered.chronicles)

  known_chronicles : AllByRecursion (IsChronicleOf (HasText table.texts)) (map chronicle (plans_of plans))
  known_chronicles = each_chronicle (plans_of plans) known_plans
    where
      each_chronicle : (ps : List Plan) → AllByRecursion (λ p. IsChronicleOf (HasText table.texts) (chronicle p)) ps → AllByRecursion (IsChronicleOf (HasText table.texts)) (map chronicle ps)
      each_chronicle [] h = tt
      each_chronicle (p ∷ ps) h = (h.0, each_chronicle ps h.1)

  in_file_order : map (renamed_chronicle (text_in table.texts)) (map chronicle (plans_of plans)) ≡ frame.models.chronicles
  in_file_order = two_maps (plans_of plans) ∙ sym chronicles_are
    where
      two_maps : (ps : List Plan) → map (renamed_chronicle (text_in table.texts)) (map chronicle ps) ≡ map (chronicle_in table.texts) ps
      two_maps [] = refl
      two_maps (p ∷ ps) = ap (λ (cs : List (Chronicle (List ℕ))). chronicle_in table.texts p ∷ cs) (two_maps ps)

  -- the plans' strata and lags are those of the chronicles
  in_time_plans : AreInTime (List ℕ) frame.models.chronicles
  in_time_plans =
      let ps = plans_of plans in
      let strata = strata_on (text_in table.texts) (HasText table.texts) (apart table.texts is.distinct) (map chronicle ps) lags.0 known_chronicles lags.1 in
      let own = lags_on (text_in table.texts) (map chronicle ps) (map (λ p. p.lag) ps) (lags_are ps made) in
      record {
        strata = lags.0;
        lags = map (λ p. p.lag) ps;
        are_strata = subst (λ (cs : List (Chronicle (List ℕ))). AreStrata cs lags.0) in_file_order strata;
        are_lags = subst (λ (cs : List (Chronicle (List ℕ))). AreLags cs (map (λ p. p.lag) ps)) in_file_order own;
        fast = λ n l s.
            let long : length frame.models.chronicles ≡ length ps = ap length chronicles_are ∙ length-map ps (chronicle_in table.texts) in
            lags.2 n (subst (λ k. n ≤ k) long l) (subst AreSlow (ap (zip (take n lags.0)) (take-map (λ (p : Plan). p.lag) n ps)) s);
      }

  placed_in_time : frame.placed ≡ placed_by frame.models.chronicles in_time_plans.strata in_time_plans.lags
  unfolding in_time_plans
  placed_in_time =
      placed_same table.texts (plans_of plans) lags.0 ∙ ap (λ (cs : List (Chronicle (List ℕ))). placed_by cs lags.0 (map (λ p. p.lag) (plans_of plans))) in_file_order

  pub lone_chronicles : AreLonePlans plans → GiveNothing frame
  lone_chronicles none = none_emits_in table.texts m.chronicles (none_emit plans.plans m.chronicles chronicles none)

  pub accepted : (cite ≡ true → AreLonePlans plans) → IsAccepted cite symbols entries text frame
  accepted lone = record {
    read = is.read;
    consistent = consistent;
    in_time = in_time_plans;
    placed = placed_in_time;
    cited_alone = λ e. lone_chronicles (lone e);
    symbols_are = refl;
    entries_are = refl;
    cite_is = refl;
  }

  pub has_models : HasModels frame plans table
  has_models = record {
    proper = made;
    names = names_by table.texts m.names ∙ ap (map (name_seen table.texts)) (sym names);
    names_in = subst (AreNamesIn table.texts) (sym names) is.numbered.names;
    names_few = let a : length plans.names ≡ length m.names = ap length names in omega (arith, a, length-map m.names name_of, length-map m.derived name_of, is.proper.names_few);
    arities = subst (AllByRecursion (λ n. n.arity ≤ 8)) (sym names) (arities_by m.names (all_left (λ n. n.arity ≤ 8) (map name_of m.names) (map name_of m.derived) is.proper.arities));
    chronicles = chronicles_are;
    chronicles_in = known_plans;
    distinct = is.distinct;
    limit = is.limit;
  }
