-- What a receiver is given, one item after the other, and what its answers say of the lists of items for which it stands.
-- It takes some items; it stands for lists of items that it may have been given, each with a start, or has stopped at the last
-- item of one.
use Rattle.std.specs.Prelude.{ℕ, ◌<◌, ◌≤◌, List, ◌++◌, length, take, Contains, Result, OnOk, IfErr}

-- Where the receiver stood for a start and a list, it now stands for that start and the list with these items appended.
pub record Grew {S I A : Type 0} (stands : S → A → List I → Type 0) (old new : S) (items : List I) : Type 0 where
  pub each : (start : A) (before : List I) → stands old start before → stands new start (before ++ items)

-- One of these items, the one of that number counted from 1, was answered by a Stop: where the receiver stood for a start and a
-- list, it has stopped for that start, the list with the items up to that one appended, and that Stop.
pub record StoppedAt {S I A E : Type 0} (stands : S → A → List I → Type 0) (stopped : S → A → List I → E → Type 0) (old new : S) (items : List I) (stop : E) : Type 0 where
  pub count : ℕ
  pub some : 0 < count
  pub within : count ≤ length items
  pub each : (start : A) (before : List I) → stands old start before → stopped new start (before ++ take count items) stop

-- each item that was taken before is still taken
pub record StillTakes {S I : Type 0} (takes : S → I → Type 0) (old new : S) : Type 0 where
  pub each : (item : I) → takes old item → takes new item

-- The receiver was given these items in order, or some of them up to the first that it answered by a Stop.
pub record Receives {S I A E : Type 0} (takes : S → I → Type 0) (stands : S → A → List I → Type 0) (stopped : S → A → List I → E → Type 0) (old new : S) (items : List I) (result : Result (Unit {0}) E) : Type 0 where
  pub ok : OnOk result (Grew stands old new items)
  pub takes_on : OnOk result (StillTakes takes old new)
  pub err : IfErr result (StoppedAt stands stopped old new items)

-- it takes each of these items
pub record TakesEach {S I : Type 0} (takes : S → I → Type 0) (receiver : S) (items : List I) : Type 0 where
  pub each : (item : I) → Contains items item → takes receiver item
