pub mod FirstLemmas
pub mod ReceiverLemmas
