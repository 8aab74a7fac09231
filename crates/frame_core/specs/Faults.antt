-- The faults of a view as those of any layer, which refuses what passes a limit.
use Rattle.std.specs.Prelude.{Option, Some, None}
use Rattle.frame_core.specs.{Rules.Fault, Rules.OverLimit, declared.fault.ViewFault.ViewFault}
use Rattle.art_rules.specs.Fault.TheVariants as fault
use Rattle.texture_build.specs.CacheFault.{CacheFault}
use Rattle.texture_build.specs.CacheFault.TheVariants as cache
use Rattle.wall_columns.specs.declared.fault.WallStop.{WallStop}
use Rattle.wall_columns.specs.declared.fault.WallStop.TheVariants.{Brush, Over}
use Rattle.frame_core.specs.declared.fault.ViewFault.TheVariants.{Limit, ZoneFull, ReadFault}

-- the faults of the cache, here
abbrev pub from_cache : CacheFault → ViewFault
from_cache (cache.ZoneFull wanted widest) = ZoneFull wanted widest
from_cache cache.ReadFault = ReadFault

-- what ends a view that a brush paints on a canvas
abbrev pub from_stop : WallStop CacheFault → ViewFault
from_stop (Over over) = Limit over.kind over.count
from_stop (Brush fault) = from_cache fault

abbrev pub view_fault : ViewFault → Fault OverLimit
view_fault (Limit kind count) = fault.Refused (record { kind = kind; count = count })
view_fault (ZoneFull wanted widest) = fault.ZoneFull wanted widest
view_fault ReadFault = fault.ReadFault

-- the limit that a fault tells, none where it is another
abbrev pub limit_of_view : ViewFault → Option OverLimit
limit_of_view (Limit kind count) = Some (record { kind = kind; count = count })
limit_of_view (ZoneFull wanted widest) = None
limit_of_view ReadFault = None
