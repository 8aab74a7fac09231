-- The frames that are due, by the first view that is over a limit.
use Rattle.picture_rules.proofs.Common.{[], ap, arith, cases_lt, drop, inl, inr, is_some, length, List, None, Option, refl, Some, suc, sym, take, true, unwrap_or, zero, ℕ, ◌++◌, ◌+◌, ◌-◌, ◌<◌, ◌∙◌, ◌∷◌, ◌≡◌, ◌≤◌}
use Rattle.doom_run.specs.{Rules.OverLimit, Rules.least, declared.form.ViewForm.ViewForm}
use Rattle.picture_rules.proofs.Laws.{joined_lists-append, least-is, least-none, least-some}
use Rattle.doom_run.specs.Layers.{SeenView}
use Rattle.doom_run.specs.Views.{ViewsValue, due_views, first_over, frames_of, over_at, rendered_bytes, view_bytes}

-- no view is over
pub none_over : (r : ViewsValue) → ((k : ℕ) → k < length r.views → over_at r k ≡ None) → first_over r ≡ None
unfolding first_over
none_over r within = least-none (λ k. is_some (over_at r k)) (length r.views) (λ k below. ap (λ (o : Option OverLimit). is_some o) (within k below))

-- the first that is over
pub some_over : (r : ViewsValue) (n : ℕ) (over : OverLimit) → n < length r.views → ((k : ℕ) → k < n → over_at r k ≡ None) → over_at r n ≡ Some over → first_over r ≡ Some n
unfolding first_over
some_over r n over below within is =
    least-some (λ k. is_some (over_at r k)) (length r.views) n below (ap (λ (o : Option OverLimit). is_some o) is) (λ k b. ap (λ (o : Option OverLimit). is_some o) (within k b))

-- the frames that are due, by the first view that is over
pub due_by : (form : ViewForm) (r : ViewsValue) (o : Option ℕ) → first_over r ≡ o → frames_of form r (take (unwrap_or o (length r.views)) r.views) ≡ rendered_bytes form r
unfolding due_views
due_by form r o is = ap (λ (o : Option ℕ). frames_of form r (take (unwrap_or o (length r.views)) r.views)) (sym is)

not_past : (r : ViewsValue) (n i : ℕ) → ((k : ℕ) → k < n → over_at r k ≡ None) → is_some (over_at r i) ≡ true → n ≤ i
not_past r n i within passes = elim (cases_lt i n) [ inl s ↦ absurd (let not_over : over_at r i ≡ None = within i s in cc) | inr s ↦ omega (arith, s) ]

due_past : (r : ViewsValue) (n : ℕ) (o : Option ℕ) → least (λ k. is_some (over_at r k)) (length r.views) ≡ o → n ≤ length r.views → ((k : ℕ) → k < n → over_at r k ≡ None) → n ≤ unwrap_or o (length r.views)
due_past r n None is few within = few
due_past r n (Some i) is few within =
    let least_is = least-is (λ k. is_some (over_at r k)) (length r.views) i is in
    not_past r n i within least_is.1

take_more : (n d m : ℕ) (views : List SeenView) → n + d ≡ m → take n views ++ take d (drop n views) ≡ take m views
take_more zero d m views e = ap (λ (k : ℕ). take k views) (omega (arith, e))
take_more (suc n) d zero views e = absurd (omega (arith, e))
take_more (suc n) zero (suc m) [] e = refl
take_more (suc n) (suc d) (suc m) [] e = refl
take_more (suc n) d (suc m) (v ∷ views) e = ap (λ xs. v ∷ xs) (take_more n d m views (omega (arith, e)))

frames_append : (form : ViewForm) (r : ViewsValue) (xs ys : List SeenView) → frames_of form r (xs ++ ys) ≡ frames_of form r xs ++ frames_of form r ys
unfolding frames_of
frames_append form r xs ys = joined_lists-append (view_bytes form r.palette r.scene) xs ys

-- the frames of views that are not over come first of those that are due
pub due_front : (form : ViewForm) (r : ViewsValue) (n : ℕ) → n ≤ length r.views → ((k : ℕ) → k < n → over_at r k ≡ None) →
    (rest : List ℕ) × (frames_of form r (take n r.views) ++ rest ≡ rendered_bytes form r)
unfolding first_over due_views
due_front form r n few within =
    let due_count : ℕ = unwrap_or (least (λ k. is_some (over_at r k)) (length r.views)) (length r.views) in
    let count_is_due : n ≤ due_count = due_past r n _ refl few within in
    (frames_of form r (take (due_count - n) (drop n r.views)), sym (frames_append form r (take n r.views) (take (due_count - n) (drop n r.views))) ∙ ap (frames_of form r) (take_more n (due_count - n) due_count r.views (omega (arith, count_is_due))))
