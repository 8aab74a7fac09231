-- The names that most proofs cite, of std and of Logic, passed on from one place.
pub use Rattle.std.proofs.Common.{All, Bool, Bor, Decides, Err, Fits, FitsSigned, Global, IfErr, IfOk, IfSome, IsErr, IsErrAnd, IsOk, IsSome, IsTrue, List, MatchResult, None, Ok, OnOk, Option, Result, SFits, Some, Vec, [], add-one, add-suc, add-zero, ap, append-nil, append_assoc, ap₂, arith, below_more, bit_and, cond, drop, eq-eqb, eqb, eqb-true, false, filter, find, get_or, get_or-set_other, get_or-set_same, inl, inr, int_le, is_some, le_of_suc-le-suc, leb-true, length, length-append, length-set, lit<, ltb-false, map, max, min, mod-lt, mul-suc, nat_abs, nat_le, nat_lt, neg_ℤ, negsuc, not, not-suc-le-zero, of_z, one-add, option_and_then, option_map, pos, pow_pos, refl, replicate, reverse, rules, slice_get, slice_index, slice_index_or, slice_set, subst, subst₂, suc, suc-le-suc, sym, take, to_z, true, true≢false, unwrap_or, vec_len, w16, w32, w8, zero, zero-add, zero-le, ℕ, ℤ, ⊎_elim, ◌%◌, ◌&&◌, ◌*ℤ◌, ◌*◌, ◌++◌, ◌+ℤ◌, ◌+◌, ◌-ℤ◌, ◌-◌, ◌/◌, ◌<ℤ◌, ◌<◌, ◌==◌, ◌^◌, ◌||◌, ◌↔◌, ◌∙◌, ◌∷◌, ◌≡◌, ◌≢◌, ◌≤ℤ◌, ◌≤◌, ◌⊎◌}
pub use Rattle.std.proofs.Math.Bool.{and-false, or-false, or-true, or_assoc}
pub use Rattle.std.proofs.Math.ListN.{drop_of_length-le, get_or-append, get_or-eq_default, set}
pub use Rattle.std.proofs.Math.Nat.{add-mul, div-le_of_le-mul, mul-add, mul-le-mul_right, mul_comm, one-le-mul, suc-mul}
pub use Rattle.std.proofs.Math.Pow.{pow-lt}
pub use Rattle.std.proofs.Math.Seq.{drop-append-add, drop-append_seam, drop-cons, get_or-append_seam, set-append_seam, split_at, take-add, take-append-add, take-append_seam, take-length, take-set-lt, take-suc}
pub use Rattle.std.proofs.lemmas.Bool.{and_cases, and_from, and_left, and_parts, and_right, both_ways, cases_Bool, cases_eq, cases_lt, cond-false, cond-true, false_from_ne_true, false≢true, le-leb, le-ltb, leb-false, lt-leb, lt-ltb, ltb-true, ne_eqb, not-false, not-true, or_cases, or_from, or_left, or_parts, or_right}
pub use Rattle.std.proofs.lemmas.Bool.Decides.{Decides-eqb, Decides-ltb, nat_tests, same_from_decides}
pub use Rattle.std.proofs.lemmas.Grind.{common_steps, flat_map-append, get_or-set_at, get_or_default_zero}
pub use Rattle.std.proofs.lemmas.Int.{SFits-int_wrap, clamps, fits_signed_from_abs, fits_signed_mul, int_wrap-add_left, int_wrap-add_right, int_wrap-mul_left, int_wrap-mul_right, int_wrap-sub_right, int_wrap_fits, ints, of_z-to_z, to_z-of_z, to_z_pos, unsigned_abs-mul, wrapping_add_is, wrapping_mul-bits}
pub use Rattle.std.proofs.lemmas.Iterator.Adapters.{YieldsList-from_rev_slice}
pub use Rattle.std.proofs.lemmas.Iterator.Consumers.{YieldsList-end, YieldsList-from_first, YieldsList-turn}
pub use Rattle.std.proofs.lemmas.List.{at_drop_all, at_drop_more, drop-append-le, drop-drop, drop-map, drop_all, drop_at, drop_more, flat_map_more, get_or-append-add, get_or-append_right, get_or-drop, get_or-map, get_or-replicate, get_or-reverse, get_or-take, get_or_append_left, get_or_default, get_or_past, length-drop, length-map, length-replicate, length-reverse, length-take, length-take-le, length_push, map-append, map-id, map-set, map_more, replicate-append-replicate, reverse-append, same_lists, set-append_left, set-append_right, set-set, set_comm, take-append-drop, take-append-le, take-map, take-take, take_all, take_at, take_more, take_more_set, with_items_is}
pub use Rattle.std.proofs.lemmas.List.Concat.{flat_map-cons}
pub use Rattle.std.proofs.lemmas.List.Edits.{get_or-between, length-between, paste_all, paste_more, paste_none}
pub use Rattle.std.proofs.lemmas.List.Elements.{All-append, All-cons, All-contains, All-contains_itself, All-filter, All-from_get_or, All-from_recursion, All-get_or, All-head, All-map, All-nil, All-push, All-replicate, All-set, All-tail, All-weaker, Contains-append_cases, Contains-append_left, Contains-append_right, Contains-get_or, filter-append, recursion_from_All}
pub use Rattle.std.proofs.lemmas.List.Filters.{All-dedup, dedup_is}
pub use Rattle.std.proofs.lemmas.List.Folds.{Any-from_list_any, find-append, list_all-append, list_all_at, list_any-append, list_any_at, list_any_more, list_any_none}
pub use Rattle.std.proofs.lemmas.List.FromFn.{fill_by_all, filter_of_map_range_with_len_more, get_or-map-range_with_len, get_or-range_with_len, length-map-range_with_len, length-range_with_len, map-range_with_len_more}
pub use Rattle.std.proofs.lemmas.List.Kept.{Contains-dedup_nat, IsStrictlyIncreasing-filter}
pub use Rattle.std.proofs.lemmas.List.Quantifiers.{position-Some}
pub use Rattle.std.proofs.lemmas.List.Sorted.{All-permutation, IsPermutation-cons, IsPermutation-middle, IsPermutation-refl, IsPermutation-sym, IsPermutation-trans, length_permutation}
pub use Rattle.std.proofs.lemmas.List.Sums.{AllPass-from_list_all, count_by-le-length, count_by_more_no, count_by_more_yes, fails_before_first, length-filter, list_all-from_AllPass, position_or_len_is, prefix_len-le-length, sum_by-append, sum_by-cons, sum_by_more, sum_by_push}
pub use Rattle.std.proofs.lemmas.Map.Keys.{IsStrictlyIncreasing-dedup}
pub use Rattle.std.proofs.lemmas.Map.Text.{is_eq-slice_cmp}
pub use Rattle.std.proofs.lemmas.Nat.{and_le_r, and_mask, div_below, from_le_bytes-to_le_bytes_4, le-div, le_bytes_8, mul-le, mul-mod_first}
pub use Rattle.std.proofs.lemmas.Option.{IfSome_then, get_or_from_slice_get, gets, same_Some, slice_get-get_or, slice_get-map, slice_get_cases, slice_get_read, slice_get_within}
pub use Rattle.std.proofs.lemmas.Result.{IfErr-weaker, IfOk-weaker, err_from_is_err_and, on_err_weaker, on_ok_weaker}
pub use Rattle.std.proofs.lemmas.Slice.{take-put_mid}
pub use Rattle.std.proofs.lemmas.Slice.Eq.{bytes_eq-Decides}
pub use Rattle.std.proofs.lemmas.Slice.Zip.{length-zip}
pub use Rattle.std.proofs.lemmas.Str.Ascii.{uppercase-uppercase}
pub use Rattle.std.specs.BTreeMap.{BTreeMap, IsEmpty, Updates, get, is_at}
pub use Rattle.std.specs.Char.{to_ascii_uppercase}
pub use Rattle.std.specs.Cmp.{nat_cmp_is}
pub use Rattle.std.specs.Cmp.Lexicographic.{slice_cmp, texts_ties}
pub use Rattle.std.specs.Int.{Width, cast_signed, cast_unsigned, from_bool, from_le_bytes, int_min, int_shr, is_negative, to_le_bytes, w64}
unfoldable pub use Rattle.std.specs.Int.{int_wrap}
pub use Rattle.std.specs.Int.Signed.{≤ℤ_refl}
pub use Rattle.std.specs.List.{AllByRecursion, AllPairs, AllPass, AllZip, Contains, before_first, between, dedup, flat_map, insert, list_all, list_any, position_from, position_or_len, range_with_len, sum_by, zip}
pub use Rattle.std.specs.List.Sorted.{IsPermutation, IsSorted, IsSortedBy, IsStableBy, IsStrictlyIncreasing, ties}
pub use Rattle.std.specs.Map.{lookup}
pub use Rattle.std.specs.Option.{ForSome, ok_or, option_copied, option_map_or, option_or, option_to_list}
pub use Rattle.std.specs.Ordering.{is_eq, nat_cmp, ordering_then}
pub use Rattle.std.specs.Prelude.{IsNone, OnErr, codes, count_by, if◌then◌else◌, int_div, int_lt, is_none, position, slice_range, sum, unsigned_abs, vec_capacity, ⊤}
pub use Rattle.std.specs.Result.{is_ok, result_ok}
pub use Rattle.std.specs.Str.{bytes_eq}
pub use Rattle.std.specs.Vec.{with_item, with_items}
pub use Rattle.std.specs.declared.cmp.Ordering.{Ordering}
pub use Rattle.std.specs.declared.cmp.Ordering.TheVariants.{Equal, Greater, Less}
pub use Rattle.word_rules.proofs.Logic.{and-false_left, and-false_right, and-second_false, and-true_true, any-contains, eq-false_above, eq-false_positive, eq-from_true, eq-same, eq-true, funext, is_some-false, le-from_lt_false, lt-false, lt-true, on_ok-always, or-cases, or-false_false, or-true_left, or-true_right, or_else-assoc, or_else-none, or_else-none_right, some-injective, some-same, within-row}
pub use native.Mathlib.Nat.{add-mod}
