use Rattle.std.proofs.Common.{◌≡◌, ◌≤◌, ◌<◌, ◌+◌, position, bytes_eq, map, length, [], ◌∷◌, false, Some, subst, sym, ap, ◌∙◌, arith}
use Rattle.std.proofs.lemmas.List.{length-map}
use Rattle.crs_base.specs.Recent.{AreTold}
use Rattle.crs_base.specs.Symbols.{is_known}
use Rattle.crs_base.proofs.Tags.{told_more, position_last}
use Rattle.crs_base.proofs.symbols.Symbols.intern_in_set.Goals as goal

pub invariant_of-self : goal.invariant_of-self
invariant_of-self c =
    let size : length c.self.inside.set.keys ≡ length c.args.self.now.texts = sym (length-map c.self.inside.set.keys (λ t. t.bytes.items)) ∙ ap (λ t. length t.texts) c.self.view_is in
    let most : c.self.inside.limit ≡ c.args.self.now.limit = ap (λ t. t.limit) c.self.view_is in
    let limit : length c.self.inside.set.keys < c.self.inside.limit = omega (arith, size, most) in
    let len : length c.put_last.new.set.keys ≡ length c.self.inside.set.keys + 1 = c.in-Ok.ensures.len in (
      omega (arith, len, limit),
      c.self.invariant.1,
      subst (λ l. AreTold l c.self.inside.recent) (sym c.in-Ok.ensures.ok) (told_more (map (λ t. t.bytes.items) c.self.inside.set.keys) (c.args.text.now ∷ []) c.self.inside.recent c.self.invariant.2),
    )

pub note-requires-in-Ok : goal.note-requires-in-Ok
note-requires-in-Ok c =
    let old = map (λ t. t.bytes.items) c.self.inside.set.keys in
    let new : is_known old c.args.text.now ≡ false = subst (λ t. is_known t.texts c.args.text.now ≡ false) (sym c.self.view_is) (sym c.in_default.ensures.known) in
    let place : length old ≡ c.len.result = ap (λ t. length t.texts) c.self.view_is ∙ sym c.len.ensures.value in
    subst (λ l. position (bytes_eq c.args.text.now) l ≡ Some c.len.result) (sym c.in-Ok.ensures.ok) (position_last old c.args.text.now new ∙ ap Some place)

pub invariant_of-self-in-Err : goal.invariant_of-self-in-Err
invariant_of-self-in-Err c =
    let keys = sym c.in-Err.ensures.err in
    subst (λ ks. (length ks ≤ c.self.inside.limit) × (c.self.inside.limit < 4294967296) × AreTold (map (λ t. t.bytes.items) ks) c.self.inside.recent) keys c.self.invariant
