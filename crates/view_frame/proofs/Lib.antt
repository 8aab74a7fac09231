pub mod BearingLemmas
