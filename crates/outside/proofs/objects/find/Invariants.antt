use Rattle.std.proofs.Common.{◌≡◌, map, drop}
use Rattle.outside.specs.Memory.{bytes_of}
use Rattle.outside.specs.Named.{object_of}
use Rattle.outside.proofs.objects.find.Given as goal

-- no object before the place has the name
abbrev pub invariant-loop-object : goal.invariant-loop-object
invariant-loop-object l =
    bytes_of (map object_of l.objects) l.name ≡ bytes_of (map object_of (drop l.object-index l.objects)) l.name
