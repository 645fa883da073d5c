-- What contracts see of a map.
use Rattle.coreset_map.specs.declared.map.Map.TheInside.{Inside}
use Rattle.coreset_map.specs.ControlResources.{Resources}

-- the control resource set
abbrev pub resources_in_map : Inside → Resources
resources_in_map m =
    record { start = m.start; groups = m.groups.items; duration = m.duration; interleaver = m.interleaver }
