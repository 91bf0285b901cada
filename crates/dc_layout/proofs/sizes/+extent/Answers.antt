use Rattle.dc_layout.proofs.Arithmetic.{array_extent}
use Rattle.dc_layout.proofs.Views.{type_view-Array}
use Rattle.dc_layout.proofs.sizes.+extent.Goals as goal

pub returns-in-Some-clause-value : goal.returns-in-Some-clause-value
returns-in-Some-clause-value t c =
    rw (c.repeated.ensures.value, c.in-Array.is, type_view-Array) (array_extent _ c.in-Array.count c.in-Some.element (rw (← c.get.ensures) c.in-Some.ensures.value))
