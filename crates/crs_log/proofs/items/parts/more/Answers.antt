use Rattle.std.proofs.Common.{◌≡◌, ◌∙◌, ◌++◌, ℕ, List, [], ◌∷◌, Option, Some, None, true, false, refl, rules, map, append_assoc}
use Rattle.std.proofs.lemmas.List.{map-append}
use Rattle.std.specs.Option.{option_map}
use Rattle.crs_base.specs.SeenTokens.{token_of, tokens_seen}
use Rattle.crs_base.specs.declared.tokens.Token.{Token}
use Rattle.crs_log.specs.ItemOf.{Parted, is_mark, led_by, more_of, symbol_of, with_arg}
use Rattle.crs_log.specs.SeenItems.{text_of}
use Rattle.crs_log.specs.declared.items.Span.{Span}
use Rattle.crs_log.proofs.items.parts.more.Goals as goal

led_on : (args : List (List ℕ)) (a : List ℕ) (o : Option Parted)
    → option_map (led_by (args ++ a ∷ [])) o ≡ option_map (led_by args) (option_map (with_arg a) o)
led_on args a None = refl
led_on args a (Some p) = rw append_assoc refl

-- a comma and a further argument
on : (line : List ℕ) (rest behind after : List Token) (first second : Token) (old new : List Span) (span : Span)
    → rest ≡ first ∷ behind → behind ≡ second ∷ after → is_mark 93 (token_of line first) ≡ false → is_mark 44 (token_of line first) ≡ true
    → option_map (text_of line) (Some span) ≡ symbol_of (token_of line second) → new ≡ old ++ span ∷ []
    → option_map (led_by (map (text_of line) new)) (more_of (tokens_seen line after)) ≡ option_map (led_by (map (text_of line) old)) (more_of (tokens_seen line rest))
on line rest behind after first second old new span split again still comma word pushed =
    rw (split, again, pushed, map-append, still, comma, ← word) (led_on (map (text_of line) old) (text_of line span) (more_of (tokens_seen line after)))

pub loop-first-preserved : goal.loop-first-preserved
loop-first-preserved c = record {
  words = search rules;
  args =
      on c.args.line.now c.loop-first.rest.now c.in-Some.behind.now c.in-Some-split_first.after.now c.in-Some.first.now c.in-Some-split_first.second.now
      c.loop-first.args c.push.new.self c.in-Some-symbol.span (search rules) (search rules) (search rules) (search rules)
      c.in-Some-symbol.ensures.text c.in_ok-push.ensures.ok ∙ c.loop-first.invariant.args;
}
