-- What was read of a unit, as the grammar's part.
use Rattle.std.specs.Prelude.{List, [], ◌∷◌, map}
use Rattle.dc_syntax.specs.declared.unit.Part as code
use Rattle.dc_syntax.specs.declared.unit.Part.TheFolds.{fold-Part}
use Rattle.dc_syntax.specs.declared.unit.Part.TheOpen.{Part-F}
use Rattle.dc_syntax.specs.declared.unit.Unit as whole
use Rattle.dc_syntax.specs.Trees.{Condition}
use Rattle.dc_syntax.specs.Parts as p
use Rattle.dc_syntax.specs.Parts.{Part}
use Rattle.dc_syntax.specs.View.{raw_view, specs_tree, more_tree}

-- the initializers behind the first
abbrev pub inits_part : List Part → Part
inits_part [] = p.NoInits
inits_part (i ∷ rest) = p.Inits i (inits_part rest)

-- the init-decls behind the first
abbrev pub more_declared_part : List Part → Part
more_declared_part [] = p.NoMoreDeclared
more_declared_part (a ∷ rest) = p.MoreDeclared a (more_declared_part rest)

abbrev pub declared_part : List Part → Part
declared_part [] = p.NoneDeclared
declared_part (a ∷ rest) = p.SomeDeclared a (more_declared_part rest)

-- the groups behind the first
abbrev pub more_groups_part : List Part → Part
more_groups_part [] = p.NoMoreGroups
more_groups_part (g ∷ rest) = p.MoreGroups g (more_groups_part rest)

abbrev pub groups_part : List Part → Part
groups_part [] = p.NoGroups
groups_part (g ∷ rest) = p.Groups g (more_groups_part rest)

abbrev pub clauses_part : List Part → Part
clauses_part [] = p.NoClauses
clauses_part (c ∷ rest) = p.Clauses c (clauses_part rest)

abbrev pub items_part : List Part → Part
items_part [] = p.NoItems
items_part (a ∷ rest) = p.Items a (items_part rest)

abbrev pub externals_part : List Part → Part
externals_part [] = p.NoExternals
externals_part (a ∷ rest) = p.Externals a (externals_part rest)

abbrev pub part_step : Part-F Part → Part
part_step (Part-F.Single e) = p.Single (raw_view e)
part_step (Part-F.Braces i m q) = p.Braces i (inits_part m) q
part_step (Part-F.Plain d q) = p.Plain (raw_view d) q
part_step (Part-F.Initialized d i q) = p.Initialized (raw_view d) i q
part_step (Part-F.Requires c q) = p.Requires (raw_view c) q
part_step (Part-F.Ensures c q) = p.Ensures (raw_view c) q
part_step (Part-F.Assigns g q) = p.Assigns (groups_part g) q
part_step (Part-F.Frees g q) = p.Frees (groups_part g) q
part_step (Part-F.LoopInvariant c q) = p.LoopInvariant (raw_view c) q
part_step (Part-F.Decreases c m q) = p.Decreases (raw_view c) (more_tree Condition (map raw_view m)) q
part_step (Part-F.Group c m q) = p.Group (raw_view c) (more_tree Condition (map raw_view m)) q
part_step (Part-F.GroupIf c d m q) = p.GroupIf (raw_view c) (raw_view d) (more_tree Condition (map raw_view m)) q
part_step (Part-F.Block m q) = p.Block (items_part m) q
part_step (Part-F.Empty q) = p.Empty q
part_step (Part-F.Simple e q) = p.Simple (raw_view e) q
part_step (Part-F.Return q) = p.Return q
part_step (Part-F.ReturnValue e q) = p.ReturnValue (raw_view e) q
part_step (Part-F.Break q) = p.Break q
part_step (Part-F.Continue q) = p.Continue q
part_step (Part-F.If e a q) = p.If (raw_view e) a q
part_step (Part-F.IfElse e a b q) = p.IfElse (raw_view e) a b q
part_step (Part-F.While e c a q) = p.While (raw_view e) (clauses_part c) a q
part_step (Part-F.Do a e c q) = p.Do a (raw_view e) (clauses_part c) q
part_step (Part-F.For f e s c a q) = p.For f e s (clauses_part c) a q
part_step (Part-F.Switch e a q) = p.Switch (raw_view e) a q
part_step (Part-F.Case c a q) = p.Case (raw_view c) a q
part_step (Part-F.Default a q) = p.Default a q
part_step Part-F.NoStep = p.NoStep
part_step (Part-F.Step e) = p.Step (raw_view e)
part_step (Part-F.FirstDeclaration s a m q) = p.FirstDeclaration (specs_tree (map raw_view s)) a (more_declared_part m) q
part_step (Part-F.Declaration s d q) = p.Declaration (specs_tree (map raw_view s)) (declared_part d) q
part_step (Part-F.Definition s d c b q) = p.Definition (specs_tree (map raw_view s)) (raw_view d) (clauses_part c) b q
part_step (Part-F.Prototype s d c m q) = p.Prototype (specs_tree (map raw_view s)) (raw_view d) c (clauses_part m) q

abbrev pub part_view : code.Part → Part
part_view = fold-Part Part part_step

abbrev pub unit_view : whole.Unit → Part
unit_view u = externals_part (map part_view u.externals)
