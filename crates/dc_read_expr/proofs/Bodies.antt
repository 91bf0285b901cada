-- A struct or an enum with its braces, by the readers of its parts.
use Rattle.std.proofs.Common.{◌≡◌, ℕ, ◌+◌, ◌<◌, ◌≤◌, max, true, List, map, length, drop, sym, ap, ◌∙◌, arith}
use Rattle.dc_syntax.specs.declared.mark.Mark.TheVariants.{LeftBrace, RightBrace}
use Rattle.dc_syntax.specs.declared.raw.Raw.TheViews as raw
use Rattle.dc_syntax.specs.declared.raw.Tag.{Tag}
use Rattle.dc_syntax.specs.Tokens.{Token, Place, Marked}
use Rattle.dc_syntax.specs.Names.{Names}
use Rattle.dc_syntax.specs.Trees as trees
use Rattle.dc_syntax.specs.Trees.{Tree, StructBody, EnumBody, Enumerators, declared, height, tag_height}
use Rattle.dc_syntax.specs.Reading.{Nothing, Found, Reads, EnumeratorOf, next, eat, between, begins, found, members, more, struct_body, enum_body, enum_end}
use Rattle.dc_syntax.specs.View.{raw_view, tag_view, members_tree, more_tree}
use Rattle.dc_syntax.proofs.Views.{raw_view-StructBody, raw_view-EnumBody}
use Rattle.dc_read_expr.specs.declared.read.Read.{Read}
use Rattle.dc_read_expr.specs.declared.lists.ReadItems.{ReadItems}
use Rattle.dc_read_expr.specs.View.{IsReading, IsListing, IsTag, IsEnding, closed_members}
use Rattle.dc_read_expr.specs.Bodies.{enumerators_behind}
use Rattle.dc_read_expr.proofs.Eating.{eaten, list_end_next}
use Rattle.dc_read_expr.proofs.Gathering.{body_by_members}

struct_by : (r : Reads) (env : Names) (all : List Token) (t : trees.Tag) (tokens : List Token) (brace : ℕ) → begins (Marked LeftBrace) (drop brace tokens) ≡ true
    → struct_body r env all t (drop brace tokens) ≡ next (closed_members r env (length (drop (brace + 1) tokens)) (drop (brace + 1) tokens)) (λ m rest. found all (StructBody t m) rest)
struct_by r env all t tokens brace is =
    eaten (Marked LeftBrace) tokens brace (λ ts. next (members r env (length ts) ts) (λ m rest. eat (Marked RightBrace) rest (λ rest. found all (StructBody t m) rest))) is
    ∙ body_by_members r env all (drop (brace + 1) tokens) t

pub struct_none : (r : Reads) (env : Names) (all : List Token) (t : trees.Tag) (tokens : List Token) (brace : ℕ) → begins (Marked LeftBrace) (drop brace tokens) ≡ true
    → closed_members r env (length (drop (brace + 1) tokens)) (drop (brace + 1) tokens) ≡ Nothing → struct_body r env all t (drop brace tokens) ≡ Nothing
struct_none r env all t tokens brace is none = struct_by r env all t tokens brace is ∙ ap (λ o. next o (λ m rest. found all (StructBody t m) rest)) none

pub struct_reading : (r : Reads) (env : Names) (tokens : List Token) (from brace limit h : ℕ) (tag : Tag) (list : ReadItems) (p : Place) (read : Read) → begins (Marked LeftBrace) (drop brace tokens) ≡ true → from < brace
    → IsListing tokens (brace + 1) limit members_tree list (closed_members r env (length (drop (brace + 1) tokens)) (drop (brace + 1) tokens)) → IsTag tag h limit
    → read.tree ≡ raw.StructBody tag list.items p → p ≡ between (drop from tokens) (drop list.at tokens) → read.height ≡ max h list.height → read.at ≡ list.at
    → IsReading tokens from limit read (struct_body r env (drop from tokens) (tag_view tag) (drop brace tokens))
struct_reading r env tokens from brace limit h tag list p read is lt l t tree place high at =
    let all = drop from tokens in
    let m = members_tree (map raw_view list.items) in
    let viewed : raw_view read.tree ≡ StructBody (tag_view tag) (members_tree (map raw_view list.items)) p = ap raw_view tree ∙ raw_view-StructBody tag list.items p in
    record {
      found = struct_by r env all (tag_view tag) tokens brace is ∙ (ap (λ o. next o (λ m rest. found all (StructBody (tag_view tag) m) rest)) l.found
          ∙ (ap (λ p. Found (StructBody (tag_view tag) m p) (drop list.at tokens)) (sym place) ∙ (ap (λ t. Found t (drop list.at tokens)) (sym viewed)
          ∙ ap (λ k. Found (raw_view read.tree) (drop k tokens)) (sym at))));
      high = high ∙ (ap (λ n. max n list.height) t.high ∙ (ap (max (tag_height (tag_view tag))) l.high ∙ sym (ap height viewed)));
      short = omega (arith, high, t.short, l.short);
      after = omega (arith, at, lt, l.after);
      within = omega (arith, at, l.within);
    }

enum_by : (r : Reads) (env : Names) (all : List Token) (t : trees.Tag) (tokens : List Token) (brace : ℕ) → begins (Marked LeftBrace) (drop brace tokens) ≡ true
    → enum_body r env all t (drop brace tokens) ≡ next (r EnumeratorOf env (drop (brace + 1) tokens)) (λ e rest. enumerators_behind r env all t e rest)
enum_by r env all t tokens brace is = eaten (Marked LeftBrace) tokens brace (λ ts. next (r EnumeratorOf env ts) (λ e rest. enumerators_behind r env all t e rest)) is

pub enum_no_first : (r : Reads) (env : Names) (all : List Token) (t : trees.Tag) (tokens : List Token) (brace : ℕ) → begins (Marked LeftBrace) (drop brace tokens) ≡ true
    → r EnumeratorOf env (drop (brace + 1) tokens) ≡ Nothing → enum_body r env all t (drop brace tokens) ≡ Nothing
enum_no_first r env all t tokens brace is none = enum_by r env all t tokens brace is ∙ ap (λ o. next o (λ e rest. enumerators_behind r env all t e rest)) none

pub enum_first : (r : Reads) (env : Names) (all : List Token) (t : trees.Tag) (tokens : List Token) (brace limit : ℕ) (first : Read) → begins (Marked LeftBrace) (drop brace tokens) ≡ true
    → IsReading tokens (brace + 1) limit first (r EnumeratorOf env (drop (brace + 1) tokens))
    → enum_body r env all t (drop brace tokens) ≡ enumerators_behind r env all t (raw_view first.tree) (drop first.at tokens)
enum_first r env all t tokens brace limit first is q = enum_by r env all t tokens brace is ∙ ap (λ o. next o (λ e rest. enumerators_behind r env all t e rest)) q.found

enumerators_by : (r : Reads) (env env' : Names) (all : List Token) (t : trees.Tag) (e : Tree) (rest : List Token) → env' ≡ declared e env
    → enumerators_behind r env all t e rest ≡ next (more (r EnumeratorOf) Enumerators env' (length rest) rest) (λ m rest. enum_end env all t e m rest)
enumerators_by r env env' all t e rest scope = ap (λ env'. next (more (r EnumeratorOf) Enumerators env' (length rest) rest) (λ m rest. enum_end env all t e m rest)) (sym scope)

pub enum_no_more : (r : Reads) (env env' : Names) (all : List Token) (t : trees.Tag) (e : Tree) (rest : List Token) → env' ≡ declared e env
    → more (r EnumeratorOf) Enumerators env' (length rest) rest ≡ Nothing → enumerators_behind r env all t e rest ≡ Nothing
enum_no_more r env env' all t e rest scope none = enumerators_by r env env' all t e rest scope ∙ ap (λ o. next o (λ m rest. enum_end env all t e m rest)) none

pub enum_more : (r : Reads) (env env' : Names) (all : List Token) (t : trees.Tag) (e m : Tree) (rest rest' : List Token) → env' ≡ declared e env
    → more (r EnumeratorOf) Enumerators env' (length rest) rest ≡ Found m rest' → enumerators_behind r env all t e rest ≡ enum_end env all t e m rest'
enum_more r env env' all t e m rest rest' scope some = enumerators_by r env env' all t e rest scope ∙ ap (λ o. next o (λ m rest. enum_end env all t e m rest)) some

pub enum_reading : (env : Names) (tokens : List Token) (from limit h end : ℕ) (tag : Tag) (first : Read) (list : ReadItems) (p : Place) (read : Read) → from < list.at → IsTag tag h limit → first.height ≡ height (raw_view first.tree) → first.height ≤ limit
    → list.height ≡ height (more_tree Enumerators (map raw_view list.items)) → list.height ≤ limit → IsEnding tokens list.at end
    → read.tree ≡ raw.EnumBody tag first.tree list.items p → p ≡ between (drop from tokens) (drop end tokens) → read.height ≡ max h (max first.height list.height) → read.at ≡ end
    → IsReading tokens from limit read (enum_end env (drop from tokens) (tag_view tag) (raw_view first.tree) (more_tree Enumerators (map raw_view list.items)) (drop list.at tokens))
enum_reading env tokens from limit h end tag first list p read lt t first_high first_low list_high list_low ending tree place high at =
    let all = drop from tokens in
    let e = raw_view first.tree in
    let m = more_tree Enumerators (map raw_view list.items) in
    let viewed : raw_view read.tree ≡ EnumBody (tag_view tag) (raw_view first.tree) (more_tree Enumerators (map raw_view list.items)) p = ap raw_view tree ∙ raw_view-EnumBody tag first.tree list.items p in
    record {
      found = list_end_next (drop list.at tokens) (λ rest. found all (EnumBody (tag_view tag) e m) rest) ∙ (ap (λ o. next o (λ b rest. found all (EnumBody (tag_view tag) e m) rest)) ending.found
          ∙ (ap (λ p. Found (EnumBody (tag_view tag) e m p) (drop end tokens)) (sym place) ∙ (ap (λ t. Found t (drop end tokens)) (sym viewed) ∙ ap (λ k. Found (raw_view read.tree) (drop k tokens)) (sym at))));
      high = high ∙ (ap (λ n. max n (max first.height list.height)) t.high ∙ (ap (λ n. max (tag_height (tag_view tag)) (max n list.height)) first_high
          ∙ (ap (λ n. max (tag_height (tag_view tag)) (max (height e) n)) list_high ∙ sym (ap height viewed))));
      short = omega (arith, high, t.short, first_low, list_low);
      after = omega (arith, at, lt, ending.after);
      within = omega (arith, at, ending.within);
    }
