-- A declarator with a name has at least one token.
use Rattle.std.proofs.Common.{◌≡◌, ℕ, ◌<◌, ◌≤◌, true, List, length, drop, Option, Some, Result, Ok, ap, ◌∙◌, subst, arith, length-drop}
use Rattle.std.specs.declared.alloc.AllocError.{AllocError}
use Rattle.dc_syntax.specs.Tokens.{Word, Token}
use Rattle.dc_syntax.specs.Names.{Names}
use Rattle.dc_syntax.specs.Trees.{Tree, DeclaredName, Wrapped, Unsized, Sized, Function, Pointer, IsDeclarator, is_named}
use Rattle.dc_syntax.specs.Phrases.{◌⊙◌, IsWord}
use Rattle.dc_syntax.specs.Grammar.{Is}
use Rattle.dc_syntax.specs.Reading.{Found, DeclaratorOf, next, checked, declarator_named, reads}
use Rattle.dc_syntax.specs.View.{raw_view}
use Rattle.dc_syntax.proofs.Words.{false-true}
use Rattle.dc_syntax.proofs.Base.{Front, split, first_word, unplaced, held, shorter, Gives}
use Rattle.dc_syntax.proofs.Sound.{ReadAs, sound}
use Rattle.dc_read_expr.specs.declared.read.Read.{Read}
use Rattle.dc_read_expr.specs.View.{IsReading, LooselyReading, IsLooseReading}

eats : {w : Word} {B : List Token → Type 0} {all rest : List Token} → Front (IsWord w ⊙ B) all rest → length rest < length all
eats f = let s = split f in let w = first_word s.first in omega (arith, ap length w.whole, shorter s.second)

eats_behind : {w : Word} {A B : List Token → Type 0} {all rest : List Token} → Front (A ⊙ IsWord w ⊙ B) all rest → length rest < length all
eats_behind f = let s = split f in omega (arith, shorter s.first, eats s.second)

named_eats : (env : Names) (d : Tree) (all rest : List Token) → Front (Is env d) all rest → is_named d ≡ true → length rest < length all
named_eats env (DeclaredName n p) all rest f y = let w = first_word (unplaced f).is in omega (arith, ap length w.whole)
named_eats env (Wrapped d p) all rest f y = eats (held (unplaced f).is).is
named_eats env (Unsized d p) all rest f y = eats_behind (held (unplaced f).is).is
named_eats env (Sized d c p) all rest f y = eats_behind (held (unplaced f).is).is
named_eats env (Function d a p) all rest f y = eats_behind (held (unplaced f).is).is
named_eats env (Pointer k d p) all rest f y = eats (unplaced f).is
named_eats env _ all rest f y = absurd (false-true y)

pub named_after : (h : ℕ) (env : Names) (tokens : List Token) (from at : ℕ) (d : Tree) → reads h DeclaratorOf env (drop from tokens) ≡ Found d (drop at tokens)
    → is_named d ≡ true → from ≤ at → at ≤ length tokens → from < at
named_after h env tokens from at d e y le within =
    let s = sound h in
    let g : Gives (ReadAs env IsDeclarator h (drop from tokens)) (Found d (drop at tokens)) = subst (λ o. Gives (ReadAs env IsDeclarator h (drop from tokens)) o) e (s.declarator env (drop from tokens)) in
    let less = named_eats env d (drop from tokens) (drop at tokens) g.all.is y in
    omega (arith, less, length-drop from tokens, length-drop at tokens)

pub named_reading : (h : ℕ) (env : Names) (tokens : List Token) (from : ℕ) (r : Read) (result : Result (Option Read) AllocError) → LooselyReading tokens from h result (reads h DeclaratorOf env (drop from tokens))
    → result ≡ Ok (Some r) → is_named (raw_view r.tree) ≡ true → IsReading tokens from h r (declarator_named (reads h) env (drop from tokens))
named_reading h env tokens from r result q e y =
    let l : IsLooseReading tokens from h r (reads h DeclaratorOf env (drop from tokens)) = subst (λ o. LooselyReading tokens from h o (reads h DeclaratorOf env (drop from tokens))) e q in
    record {
      found = ap (λ o. next o (λ d rest. checked (is_named d) (Found d rest))) l.found ∙ ap (λ b. checked b (Found (raw_view r.tree) (drop r.at tokens))) y;
      high = l.high;
      short = l.short;
      after = named_after h env tokens from r.at (raw_view r.tree) l.found y l.after l.within;
      within = l.within;
    }
