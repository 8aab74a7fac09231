-- The laws of the crates below this one that others cite, each with the page that proves it.
pub use Rattle.level_rules.proofs.maps.TreeLemmas.{child_passes}
pub use Rattle.zone_rules.proofs.GapLemmas.{small_all}
pub use Rattle.zone_rules.proofs.OrderLemmas.{order_none, order_then}
pub use Rattle.zone_rules.proofs.OrderSumLemmas.{block_least, item_block, live_most}
