use Rattle.std.proofs.Common.{◌≡◌, ◌++◌, ℕ, List, [], ◌∷◌, Some, true, refl, rules, map}
use Rattle.std.specs.Option.{option_map}
use Rattle.crs_base.specs.SeenTokens.{token_of, tokens_seen}
use Rattle.crs_base.specs.declared.tokens.Token.{Token}
use Rattle.crs_log.specs.ItemOf.{args_of, is_mark, led_by, more_of, symbol_of}
use Rattle.crs_log.specs.SeenItems.{text_of}
use Rattle.crs_log.specs.declared.items.Span.{Span}
use Rattle.crs_log.proofs.items.parts.arguments.Goals as goal

-- behind a `[` and a first argument there are more
led : (line : List ℕ) (tokens behind after : List Token) (first second : Token) (old new : List Span) (span : Span)
    → tokens ≡ first ∷ behind → behind ≡ second ∷ after → is_mark 91 (token_of line first) ≡ true
    → option_map (text_of line) (Some span) ≡ symbol_of (token_of line second) → old ≡ [] → new ≡ old ++ span ∷ []
    → option_map (led_by (map (text_of line) new)) (more_of (tokens_seen line after)) ≡ args_of (tokens_seen line tokens)
led line tokens behind after first second old new span split again mark word none pushed =
    rw (split, again, pushed, none, mark, ← word) refl

pub returns-clause-args : goal.returns-clause-args
returns-clause-args c =
    let e = led c.args.line.now c.args.tokens.now c.in-Some.behind.now c.in-Some-split_first.after.now c.in-Some.first.now c.in-Some-split_first.second.now
    c.args.args.now c.push.new.self c.in-Some-symbol.span (search rules) (search rules) (search rules) c.in-Some-symbol.ensures.text c.requires.none
    c.in_ok-push.ensures.ok in
    rw (← e) c.more.ensures.args
