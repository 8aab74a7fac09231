-- The faults of drawing as those of any layer, which refuses what passes a limit, and what ends a view that a brush paints.
use Rattle.std.specs.Prelude.{◌≡◌, ◌++◌, ℕ, List, Option, Some, None, Result, Ok, Err, ⊤}
use Rattle.wall_columns.specs.Rules.{Fault, OverLimit, openings_count, planes_count}
use Rattle.art_rules.specs.Fault.TheVariants as fault
use Rattle.wall_columns.specs.declared.fault.DrawFault.{DrawFault}
use Rattle.wall_columns.specs.declared.fault.DrawFault.TheVariants.{Planes, Openings, ZoneFull, ReadFault}
use Rattle.wall_columns.specs.declared.fault.WallStop.{WallStop}
use Rattle.wall_columns.specs.declared.fault.WallStop.TheVariants.{Brush, Over}
use Rattle.picture_rules.specs.declared.LimitKind.{LimitKind}
use Rattle.picture_rules.specs.declared.LimitKind.TheVariants as limit
use Rattle.receiver_rules.specs.Receivers.{Receives}
use Rattle.texture_build.specs.CacheFault.{CacheFault}
use Rattle.texture_build.specs.CacheFault.TheVariants as cache

-- the fault of the cache, here
abbrev pub from_cache_fault : CacheFault → DrawFault
from_cache_fault (cache.ZoneFull wanted widest) = ZoneFull wanted widest
from_cache_fault cache.ReadFault = ReadFault

-- the fault of a limit
abbrev pub fault_of_kind : LimitKind → ℕ → DrawFault
fault_of_kind limit.Planes count = Planes count
fault_of_kind limit.Openings count = Openings count

abbrev pub from_over : OverLimit → DrawFault
from_over over = fault_of_kind over.kind over.count

-- and of what ends a view that is painted on a canvas
abbrev pub from_stop : WallStop CacheFault → DrawFault
from_stop (Over over) = from_over over
from_stop (Brush fault) = from_cache_fault fault

abbrev pub draw_fault : DrawFault → Fault OverLimit
draw_fault (Planes count) = fault.Refused (planes_count count)
draw_fault (Openings count) = fault.Refused (openings_count count)
draw_fault (ZoneFull wanted widest) = fault.ZoneFull wanted widest
draw_fault ReadFault = fault.ReadFault

-- the limit that a fault tells
abbrev pub limit_of_fault : DrawFault → Option OverLimit
limit_of_fault (Planes count) = Some (planes_count count)
limit_of_fault (Openings count) = Some (openings_count count)
limit_of_fault (ZoneFull wanted widest) = None
limit_of_fault ReadFault = None

-- the limit that an answer tells: none where it is Ok, or another fault
abbrev pub limit_of_result : {A : Type 0} → Result A DrawFault → Option OverLimit
limit_of_result (Ok value) = None
limit_of_result (Err fault) = limit_of_fault fault

-- the limit that an answer of a count tells, and that of a view that a brush paints
abbrev pub over_of : {A : Type 0} → Result A OverLimit → Option OverLimit
over_of (Ok value) = None
over_of (Err over) = Some over

abbrev pub over_in : {E : Type 0} → WallStop E → Option OverLimit
over_in (Over over) = Some over
over_in (Brush stop) = None

abbrev pub over_of_stop : {A E : Type 0} → Result A (WallStop E) → Option OverLimit
over_of_stop (Ok value) = None
over_of_stop (Err stop) = over_in stop

-- A receiver was given these items, unless a limit was passed: then it is as it was.
abbrev pub ReceivesUnlessOver : {S I A E : Type 0} → (S → I → Type 0) → (S → A → List I → Type 0) → (S → A → List I → E → Type 0) →
    S → S → List I → Result (Unit {0}) (WallStop E) → Type 0
ReceivesUnlessOver takes stands stopped old new items (Ok value) = Receives takes stands stopped old new items (Ok tt)
ReceivesUnlessOver takes stands stopped old new items (Err (Over over)) = new ≡ old
ReceivesUnlessOver takes stands stopped old new items (Err (Brush stop)) = Receives takes stands stopped old new items (Err stop)

-- A receiver was given some of these items whole, from the first on.
pub record ReceivesFirst {S I A E : Type 0} (takes : S → I → Type 0) (stands : S → A → List I → Type 0) (stopped : S → A → List I → E → Type 0)
    (old new : S) (items : List I) : Type 0 where
  pub some : List I
  pub rest : List I
  pub joins : some ++ rest ≡ items
  pub given : Receives takes stands stopped old new some (Ok tt)

-- It was given all of them; or up to the first that it answered by a Stop; or some, until a limit was passed.
abbrev pub ReceivesBy : {S I A E : Type 0} → (S → I → Type 0) → (S → A → List I → Type 0) → (S → A → List I → E → Type 0) →
    S → S → List I → Result (Unit {0}) (WallStop E) → Type 0
ReceivesBy takes stands stopped old new items (Ok value) = Receives takes stands stopped old new items (Ok tt)
ReceivesBy takes stands stopped old new items (Err (Over over)) = ReceivesFirst takes stands stopped old new items
ReceivesBy takes stands stopped old new items (Err (Brush stop)) = Receives takes stands stopped old new items (Err stop)

pub record ReceivesToLimit {S I A E : Type 0} (takes : S → I → Type 0) (stands : S → A → List I → Type 0) (stopped : S → A → List I → E → Type 0)
    (old new : S) (items : List I) (result : Result (Unit {0}) (WallStop E)) : Type 0 where
  pub by : ReceivesBy takes stands stopped old new items result

-- planes alone are told
abbrev pub IsPlanesFault : DrawFault → Type 0
IsPlanesFault (Planes count) = ⊤
IsPlanesFault (Openings count) = ⊥
IsPlanesFault (ZoneFull wanted widest) = ⊥
IsPlanesFault ReadFault = ⊥

-- a limit is told
abbrev pub IsLimitFault : DrawFault → Type 0
IsLimitFault (Planes count) = ⊤
IsLimitFault (Openings count) = ⊤
IsLimitFault (ZoneFull wanted widest) = ⊥
IsLimitFault ReadFault = ⊥
