use Rattle.std.proofs.Common.{◌≡◌, ℕ, length, ap, ◌∙◌, arith}
use Rattle.patch_columns.proofs.CompositeLemmas.{composite_up_to, composite_up_to-none, composite_up_to-more, composite_up_to-all}
use Rattle.patch_columns.proofs.compose.put_patch.Goals as goal

pub loop-x-init : goal.loop-x-init
loop-x-init c = record {
  same = λ i. length c.args.composite.now;
  put = λ bytes patches n h. h.before ∙ composite_up_to-none bytes patches n c.args.height (length c.args.columns.now);
}

pub loop-x-preserved : goal.loop-x-preserved
loop-x-preserved c = record {
  same = c.put_in_composite.ensures.count ∙ c.loop-x.invariant.same;
  put = λ bytes patches n h.
      composite_up_to-more bytes patches n c.args.height c.loop-x.x c.args.lump.now c.args.patch.now c.args.columns.now _ _ _ _ h c.loop-x-test.true
      (c.loop-x.invariant.put bytes patches n h)
      (record { other = c.put_in_composite.ensures.other; put = c.put_in_composite.ensures.put });
}

pub returns-clause-put : goal.returns-clause-put
returns-clause-put c = λ bytes patches n within is its lookups before.
    let end_is : c.loop-x.x ≡ length c.args.columns.now = omega arith in
    c.loop-x.invariant.put bytes patches n (record { next = record { is = is; its = its }; lookups = lookups; before = before })
    ∙ ap (λ (x : ℕ). composite_up_to bytes patches n c.args.height x (length c.args.columns.now)) end_is
    ∙ composite_up_to-all bytes patches n c.args.height (length c.args.columns.now)
