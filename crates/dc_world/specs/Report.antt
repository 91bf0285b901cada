-- The ends of the code as plain data.
use Rattle.dc_core.specs.Event as plain
use Rattle.dc_world.specs.declared.report.End.{End}
use Rattle.dc_world.specs.declared.report.End.TheVariants as end
use Rattle.dc_world.specs.declared.report.Which.{Which}
use Rattle.dc_world.specs.declared.report.Which.TheVariants as which

abbrev pub limit_view : Which → plain.End
limit_view which.Objects = plain.ObjectLimit
limit_view which.Depth = plain.DepthLimit

abbrev pub end_view : End → plain.End
end_view (end.Returned result) = plain.Returned result
end_view end.Blocked = plain.Blocked
end_view (end.Undefined function) = plain.Undefined function
end_view (end.NoBody function) = plain.NoBody function
end_view (end.Limit w) = limit_view w
end_view end.ChoicesEnded = plain.ChoicesEnded
end_view end.Cut = plain.Cut
