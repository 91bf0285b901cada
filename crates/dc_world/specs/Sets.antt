-- Write sets of the code as plain data.
use Rattle.std.specs.Prelude.{List, map}
use Rattle.dc_core.specs.Contract as plain
use Rattle.dc_world.specs.declared.sets.Range.{Range}
use Rattle.dc_world.specs.declared.sets.WriteSet.{WriteSet}

abbrev pub range_view : Range → plain.Range
range_view r = record { tag = r.tag; object = r.object; from = r.from; len = r.len }

abbrev pub ranges_view : List Range → List plain.Range
ranges_view ranges = map range_view ranges

abbrev pub set_view : WriteSet → plain.WriteSet
set_view s = record { mark = s.mark; ranges = ranges_view s.ranges.items }
