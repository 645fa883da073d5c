-- How an object that is handed to a shelf in memory is seen.
use Rattle.std.specs.String.{string_bytes}
use Rattle.outside.specs.declared.objects.NamedBytes.{NamedBytes}
use Rattle.outside.specs.Memory.{Object}

-- its name and its bytes
abbrev pub object_of : NamedBytes → Object
object_of o = record { name = string_bytes o.name; bytes = o.bytes.items }
