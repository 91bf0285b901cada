use Rattle.std.proofs.Common.{◌≡◌, ℕ, Bool, false, ◌<◌, ◌++◌, ◌∷◌, [], ◌∙◌, sym, ap, length, arith}
use Rattle.std.specs.Prelude.{nat_le}
use Rattle.std.proofs.lemmas.List.{length-map}
use Rattle.std.proofs.lemmas.Bool.Decides.{nat_tests}
use Rattle.dc_form.proofs.Turns.{head_turn}
use Rattle.dc_form.proofs.signature.read_head.Goals as goal

-- there is room where the test says so
has_room : (names statics : ℕ) (full : Bool) → names ≡ statics → full ≡ nat_le 32766 statics → full ≡ false → names < 32766
has_room names statics full e t f =
    let test : nat_le 32766 statics ≡ false = sym t ∙ f in
    let below : statics < 32766 = grind (arith, nat_tests) in
    omega arith

pub loop-gives_int-preserved : goal.loop-gives_int-preserved
loop-gives_int-preserved c =
    let f = c.in-Ok-read_name.ensures.found in
    let inv = c.loop-gives_int.invariant in
    let same_length = ap length inv.1 ∙ length-map c.loop-gives_int.statics (λ v. v.name) in
    let count = c.is_full.ensures in
    let test = c.if-is_full.false in
    let room : length c.loop-gives_int.names < 32766 = has_room _ _ _ same_length count test in (
      inv.0 ∙ head_turn _ _ _ _ _ _ _ _ _ _ c.in-Ok.ensures.some c.in-Ok.ensures.found f.0 f.1 c.if-not-gives_int.false c.take.ensures.is c.if-not-take.false c.take.ensures.rest room f.2,
      f.2 ∙ ap (λ l. l ++ c.in-Ok-read_name.token.now ∷ []) inv.1 ∙ sym c.in_ok-push_variable.ensures.found,
      c.in_ok-push_variable.ensures.whole inv.2,
    )
