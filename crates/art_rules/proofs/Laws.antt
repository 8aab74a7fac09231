-- The laws of the crates below this one that others cite, each with the page that proves it.
pub use Rattle.outside.proofs.AnswerLemmas.{and_then-ok}
pub use Rattle.outside.proofs.CauseLemmas.{cause_above, cause_memory, cause_none, cause_refused, cause_then, causes_memory, causes_ok, causes_refused, causes_settled, causes_stop, causes_then}
pub use Rattle.outside.proofs.ShelfLemmas.{all_stand_later, follows_none, follows_then, stands_at}
pub use Rattle.outside.proofs.StepLemmas.{last_stop, step}
pub use Rattle.outside.proofs.StopLemmas.{absent_agrees, all_passed, file_agrees, no_file_agrees, not_held, step_passed, step_stops, stops_all, unread_agrees}
pub use Rattle.outside.proofs.ThroughLemmas.{IsThrough, done_through, if_ok, ok_through}
pub use Rattle.outside.proofs.WriteLemmas.{grew_more, grew_none, grew_partly, grew_whole, prefix_none, prefix_of_more, prefix_of_none, prefix_written, writes_more, writes_none, writes_stop, writes_stopped, writes_then}
pub use Rattle.word_rules.proofs.ByteLemmas.{half_at-bytes, word_at-halves}
pub use Rattle.word_rules.proofs.LeastLemmas.{greatest-is, greatest-none, greatest-some, least-is, least-more, least-none, least-some, leasts, none-below, none-below_greatest}
pub use Rattle.word_rules.proofs.ListedLemmas.{get_or-listed, joined_lists-append, joined_lists-cons, length-listed, listed-all, listing}
pub use Rattle.lump_rules.proofs.ContentLemmas.{directory_within, lump_bytes-length}
pub use Rattle.lump_rules.proofs.WadLemmas.{file_lumps-length, lumps_in-length, unless_refused_ok}
