use Rattle.std.proofs.Common.{◌≡◌, map, drop}
use Rattle.dc_outside.specs.Shelf.{file_of}
use Rattle.dc_outside.proofs.memory_shelf.first_file.Given as goal

abbrev pub invariant-loop-own : goal.invariant-loop-own
invariant-loop-own l =
    file_of (map (λ file. (file.0.items, file.1.items)) l.files) l.name
    ≡ file_of (map (λ file. (file.0.items, file.1.items)) (drop l.own-index l.files)) l.name
