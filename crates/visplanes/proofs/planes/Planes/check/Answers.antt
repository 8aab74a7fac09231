use Rattle.picture_rules.proofs.Common.{ap, arith, false≢true, IfOk, IsErr, length, OnOk, subst, sym, ◌<◌, ◌≡◌, ◌≤◌}
use Rattle.picture_rules.specs.Words.{PlaneChoice}
use Rattle.visplanes.specs.Planes.{with_planes}
use Rattle.visplanes.proofs.ListLemmas.{within_room, check-read, check-added}
use Rattle.visplanes.proofs.planes.Planes.check.Goals as goal

pub returns-then-is_free-clause-ok : goal.returns-then-is_free-clause-ok
returns-then-is_free-clause-ok c =
    sym (ap (λ (ch : PlaneChoice). with_planes ch.planes c.args.self.now) (check-read c.args.self.now _ _ c.args.plane.0 c.args.first c.args.last _ _
    c.self.view_is c.requires.plane c.self.invariant.0 c.index-checked.ensures c.is_free.ensures c.if-is_free.true))

pub returns-then-is_free-clause-number : goal.returns-then-is_free-clause-number
returns-then-is_free-clause-number c =
    sym (ap (λ (ch : PlaneChoice). ch.number) (check-read c.args.self.now _ _ c.args.plane.0 c.args.first c.args.last _ _
    c.self.view_is c.requires.plane c.self.invariant.0 c.index-checked.ensures c.is_free.ensures c.if-is_free.true))

pub returns-then-is_free-clause-full : goal.returns-then-is_free-clause-full
returns-then-is_free-clause-full c =
    let counts_same = ap (λ (ch : PlaneChoice). length ch.planes) (check-read c.args.self.now _ _ c.args.plane.0 c.args.first c.args.last _ _
    c.self.view_is c.requires.plane c.self.invariant.0 c.index-checked.ensures c.is_free.ensures c.if-is_free.true) in
    let room : length c.args.self.now.planes ≤ c.args.self.now.room = within_room c.args.self.now _ _ c.self.view_is c.self.invariant.0 in
    (λ e. absurd (false≢true e), λ l. absurd (omega arith))

pub returns-clause-ok : goal.returns-clause-ok
returns-clause-ok c =
    let new = check-added c.args.self.now _ _ c.args.plane.0 c.args.first c.args.last _ _ _
    c.self.view_is c.requires.plane c.self.invariant.0 c.index-checked.ensures c.is_free.ensures c.if-is_free.false c.key-key.ensures.value in
    subst (λ (ch : PlaneChoice). OnOk c.add.result (c.add.new.self ≡ with_planes ch.planes c.args.self.now)) (sym new) c.add.ensures.ok

pub returns-clause-number : goal.returns-clause-number
returns-clause-number c =
    let new = check-added c.args.self.now _ _ c.args.plane.0 c.args.first c.args.last _ _ _
    c.self.view_is c.requires.plane c.self.invariant.0 c.index-checked.ensures c.is_free.ensures c.if-is_free.false c.key-key.ensures.value in
    subst (λ (ch : PlaneChoice). IfOk c.add.result (λ checked. checked.0 ≡ ch.number)) (sym new) c.add.ensures.number

pub returns-clause-full : goal.returns-clause-full
returns-clause-full c =
    let new = check-added c.args.self.now _ _ c.args.plane.0 c.args.first c.args.last _ _ _
    c.self.view_is c.requires.plane c.self.invariant.0 c.index-checked.ensures c.is_free.ensures c.if-is_free.false c.key-key.ensures.value in
    subst (λ (ch : PlaneChoice). (IsErr c.add.result → c.args.self.now.room < length ch.planes) × (c.args.self.now.room < length ch.planes → IsErr c.add.result)) (sym new) c.add.ensures.full
