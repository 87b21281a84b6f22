-- A wait is put in by its bit, its next word and the child's head, in this order; where the child is finished the bit
-- is cleared again.
use Rattle.std.proofs.Common.{◌≡◌, ℕ, ◌+◌, ◌*◌, ◌/◌, ◌<◌, sym, refl, ap, subst, ◌∙◌}
use Rattle.std.proofs.Common.{inr, arith}
use Rattle.board_rule.specs.Words.{cell_word, head_word, run_word}
use Rattle.board_rule.specs.Looks.{Looked}
use Rattle.board_rule.specs.May.{MaySee, MayLink, MayPush, MayDrop}
use Rattle.board_rule.specs.Seats.{waits_at, wait_begun, next_stored, wait_put, wait_dropped}
use Rattle.board_rule.specs.Plays.{Moment}
use Rattle.board_rule.specs.declared.hands.Hands.{Hands}
use Rattle.goal_board.specs.declared.board.Right.{Right}
use Rattle.goal_board.specs.Seats.{hands, the_wait}
use Rattle.goal_board.specs.RightCalls.{waiting_right, IsRightOf}
use Rattle.goal_board.proofs.Finishing.{has_right}
use Rattle.goal_board.proofs.Seated.{seat_freed}
use Rattle.goal_board.proofs.OthersKept.{register_keeps, finished_keeps}
use Rattle.goal_board.proofs.Told.{push_at, dropped_at}
use Rattle.goal_board.proofs.Putting.{its_waits, linked_child, nearer, right_registered}
use Rattle.goal_board.proofs.Putting.{right_kept}
use Rattle.goal_board.proofs.Registering.{registers, finds_finished}
use Rattle.goal_board.proofs.WaitTurns.{putting_begins, found_later, putting_goes_on}
use Rattle.goal_board.proofs.board.Board.wait_for.Goals as goal

pub begin_wait-requires-clause-may : goal.begin_wait-requires-clause-may
begin_wait-requires-clause-may g c κs within =
    let r = c.requires.right in record {
      near = r.near;
      held = r.held;
      fewer = c.requires.fewer;
      free = c.requires.seat.free.no_wait;
    }

pub see_head-head-requires-clause-may : goal.see_head-head-requires-clause-may
see_head-head-requires-clause-may g c κs within =
    let laws = g.met.R.GoalRules g.world.𝓛 g.world.𝓜 g.world.𝓡 ((λ s x. x), (λ x. x), (λ x. x), λ x. x) in
    let b = c.args.self.now in
    let v = hands c.args.seat.now in
    let r = c.requires.right in
    let child = c.requires.child in
    let told = c.begin_wait.ensures.told in
    let place : ℕ = c.args.right.now.place in
    let waits = its_waits g.R.GoalRules.meaning b.setup.rules b.setup.capacity v (run_word place) c.begin_wait.result
    place
    c.args.right.now.waits c.requires.seat.over told.moment r.near r.held in
    let few : waits_at place v.rights < 8 = subst (λ n. n < 8) (sym waits) c.requires.fewer in
    let at : (8 * place + waits_at place v.rights) / 8 ≡ place = omega arith in
    subst (λ (h : Hands _). MaySee (g.R.GoalRules.meaning b.setup.rules) b.setup.capacity h (the_wait h)
    c.args.child_at) (sym told.hands_are) (record {
      is = refl;
      near = c.requires.near;
      goal = c.args.right.now.goal;
      some_goal = r.some_goal;
      goal_stands = subst (λ p. Looked (wait_begun v place c.begin_wait.result).looks (cell_word p)
          c.args.right.now.goal) (sym at) (inr r.stands);
      other = child.other;
      some_other = child.some_other;
      other_stands = inr child.stands;
      is_goal = (laws.children_enter b.setup.rules c.args.right.now.goal child.other r.enters child.is_child).1;
      is_child = child.is_child;
    })

pub loop-head-init : goal.loop-head-init
loop-head-init g c =
    let b = c.args.self.now in
    let v = hands c.args.seat.now in
    let r = c.requires.right in
    let told = c.begin_wait.ensures.told in
    let saw = c.see_head-head.ensures.told in
    let place : ℕ = c.args.right.now.place in
    let waits = its_waits g.R.GoalRules.meaning b.setup.rules b.setup.capacity v (run_word place) c.begin_wait.result
    place
    c.args.right.now.waits c.requires.seat.over told.moment r.near r.held in
    record {
      right = refl;
      seat = c.see_head-head.ensures.seat;
      putting = putting_begins g.R.GoalRules.meaning b.setup.rules b.setup.capacity v (hands c.begin_wait.new.seat)
          (hands c.see_head-head.new.seat) place c.args.right.now.waits c.args.child_at c.begin_wait.result
          c.see_head-head.result b.sized.3 r.near c.requires.near c.requires.fewer waits c.requires.seat.over
          told.moment c.begin_wait.ensures.seat.over saw.moment told.hands_are saw.hands_are;
    }

pub store_next-requires-clause-may : goal.store_next-requires-clause-may
store_next-requires-clause-may g c κs within =
    let p = c.loop-head.invariant.putting in
    subst (λ (h : Hands _). MayLink h (the_wait h) c.loop-head.head) (sym p.hands_are)
    (record { is = refl; seen = refl; was_open = c.loop-head-test.true })

pub store_next-requires-clause-waiter : goal.store_next-requires-clause-waiter
store_next-requires-clause-waiter g c κs within =
    ap (λ (h : Hands _). (the_wait h).waiter) c.loop-head.invariant.putting.hands_are

pub put_wait-found-requires-clause-may : goal.put_wait-found-requires-clause-may
put_wait-found-requires-clause-may g c κs within =
    let p = c.loop-head.invariant.putting in
    subst (λ (h : Hands _). MayPush c.args.self.now.setup.capacity h (the_wait h) c.loop-head.head)
    (sym (c.store_next.ensures.hands ∙ ap (λ (h : Hands _). next_stored h (the_wait h) c.loop-head.head)
    p.hands_are))
    (record { is = refl; seen = refl; linked = refl; small = c.args.self.now.sized.3 })

pub put_wait-found-requires-clause-waiter : goal.put_wait-found-requires-clause-waiter
put_wait-found-requires-clause-waiter g c κs within =
    ap (λ (h : Hands _). (the_wait h).waiter) (c.store_next.ensures.hands
    ∙ ap (λ (h : Hands _). next_stored h (the_wait h) c.loop-head.head) c.loop-head.invariant.putting.hands_are)

pub put_wait-found-requires-clause-child : goal.put_wait-found-requires-clause-child
put_wait-found-requires-clause-child g c κs within =
    ap (λ (h : Hands _). (the_wait h).child) (c.store_next.ensures.hands
    ∙ ap (λ (h : Hands _). next_stored h (the_wait h) c.loop-head.head) c.loop-head.invariant.putting.hands_are)

pub put_wait-found-requires-clause-fits : goal.put_wait-found-requires-clause-fits
put_wait-found-requires-clause-fits g c κs within =
    let bound = c.loop-head.invariant.putting.bound c.loop-head-test.true in
    let small = c.args.self.now.sized.3 in
    let near = c.requires.right.near in
    let few = c.requires.fewer in
    omega arith

pub loop-head-preserved : goal.loop-head-preserved
loop-head-preserved g c =
    let b = c.args.self.now in
    let child = linked_child c.loop-head.invariant.putting c.store_next.ensures.hands in
    let told = push_at child c.put_wait-found.ensures.told in
    record {
      right = c.loop-head.invariant.right;
      seat = c.put_wait-found.ensures.seat;
      putting = putting_goes_on g.R.GoalRules.meaning b.setup.rules b.setup.capacity (hands c.args.seat.now)
          (hands c.loop-head.seat) (hands c.store_next.new.seat) (hands c.put_wait-found.new.seat)
          (8 * c.args.right.now.place + c.args.right.now.waits) c.args.child_at c.loop-head.head
          c.put_wait-found.result b.sized.3 c.requires.near c.loop-head-test.true c.if-found-head.false
          c.store_next.ensures.seat.over told.1 c.loop-head.invariant.putting c.store_next.ensures.hands
          (told.0 c.if-found-head.false);
    }

pub loop-head-smaller : goal.loop-head-smaller
loop-head-smaller g c =
    let b = c.args.self.now in
    let v = hands c.args.seat.now in
    let p = c.loop-head.invariant.putting in
    let told = push_at (linked_child p c.store_next.ensures.hands) c.put_wait-found.ensures.told in
    nearer b.setup.capacity c.loop-head.head c.put_wait-found.result b.sized.3 c.loop-head-test.true
    (p.bound c.loop-head-test.true)
    (found_later g.R.GoalRules.meaning b.setup.rules b.setup.capacity v (hands c.loop-head.seat)
    (hands c.store_next.new.seat) (8 * c.args.right.now.place + c.args.right.now.waits) c.args.child_at c.loop-head.head
    c.put_wait-found.result c.store_next.ensures.seat.over told.1 p c.store_next.ensures.hands)
    c.if-found-head.false

pub returns-then-found-head-clause-seat : goal.returns-then-found-head-clause-seat
returns-then-found-head-clause-seat g c =
    let p = c.loop-head.invariant.putting in
    let linked = c.store_next.ensures.hands ∙ ap (λ (h : Hands _). next_stored h (the_wait h) c.loop-head.head)
    p.hands_are in
    let is = c.put_wait-found.ensures.told.hit c.if-found-head.true
    ∙ ap (λ (h : Hands _). wait_put h (the_wait h) c.loop-head.head) linked in
    seat_freed c.put_wait-found.ensures.seat is refl c.requires.seat.free.no_walk

pub returns-then-found-head-clause-answer : goal.returns-then-found-head-clause-answer
returns-then-found-head-clause-answer g c =
    let b = c.args.self.now in
    let v = hands c.args.seat.now in
    let r = c.requires.right in
    let place : ℕ = c.args.right.now.place in
    let waits : ℕ = c.args.right.now.waits in
    let told = c.put_wait-found.ensures.told in
    let moment = (push_at (linked_child c.loop-head.invariant.putting c.store_next.ensures.hands) told).1 in
    let its = its_waits g.R.GoalRules.meaning b.setup.rules b.setup.capacity v (run_word place) c.begin_wait.result
    place waits
    c.requires.seat.over c.begin_wait.ensures.told.moment r.near r.held in
    registers g.R.GoalRules.meaning b.setup.rules b.setup.capacity v (hands c.loop-head.seat)
    (hands c.store_next.new.seat)
    (hands c.put_wait-found.new.seat) place waits c.args.child_at c.loop-head.head
    b.sized.3 r.near c.requires.fewer its c.requires.seat.free.no_wait c.loop-head.invariant.putting
    c.store_next.ensures.hands c.store_next.ensures.seat.over
    (subst (Moment g.R.GoalRules.meaning (hands c.store_next.new.seat) (head_word c.args.child_at)) c.if-found-head.true
    moment)
    c.requires.near c.loop-head-test.true (told.hit c.if-found-head.true)

pub drop_wait-requires-clause-may : goal.drop_wait-requires-clause-may
drop_wait-requires-clause-may g c κs within =
    let p = c.loop-head.invariant.putting in
    subst (λ (h : Hands _). MayDrop h (the_wait h)) (sym p.hands_are)
    (record { is = refl; head = c.loop-head.head; seen = refl; closed = c.loop-head-test.false })

pub drop_wait-requires-clause-waiter : goal.drop_wait-requires-clause-waiter
drop_wait-requires-clause-waiter g c κs within =
    ap (λ (h : Hands _). (the_wait h).waiter) c.loop-head.invariant.putting.hands_are

pub returns-clause-seat : goal.returns-clause-seat
returns-clause-seat g c =
    let p = c.loop-head.invariant.putting in
    let is = c.drop_wait.ensures.told.hands_are
    ∙ ap (λ (h : Hands _). wait_dropped h (the_wait h) c.drop_wait.result) p.hands_are in
    seat_freed c.drop_wait.ensures.seat is refl c.requires.seat.free.no_walk

pub returns-clause-answer : goal.returns-clause-answer
returns-clause-answer g c =
    let b = c.args.self.now in
    let r = c.requires.right in
    let v = hands c.args.seat.now in
    let place : ℕ = c.args.right.now.place in
    let waits : ℕ = c.args.right.now.waits in
    finds_finished g.R.GoalRules.meaning b.setup.rules b.setup.capacity v (hands c.loop-head.seat)
    (hands c.drop_wait.new.seat)
    place waits c.args.child_at c.loop-head.head c.begin_wait.result c.drop_wait.result
    r.near c.requires.fewer c.requires.seat.free.no_wait r.held
    (has_right b.setup.capacity v.rights (waiting_right place waits) r.near r.held)
    c.requires.seat.over c.begin_wait.ensures.told.moment c.loop-head.invariant.putting c.loop-head-test.false
    c.loop-head.invariant.seat.over
    (dropped_at (the_wait (hands c.loop-head.seat)) (ap (λ (h : Hands _). (the_wait h).waiter)
    c.loop-head.invariant.putting.hands_are)
    c.drop_wait.ensures.told)

pub returns-then-found-head-clause-right : goal.returns-then-found-head-clause-right
returns-then-found-head-clause-right g c =
    ap (λ (r : Right). record r { waits = r.waits + 1 }) c.loop-head.invariant.right

pub returns-clause-right : goal.returns-clause-right
returns-clause-right g c = c.loop-head.invariant.right

pub returns-then-found-head-clause-its : goal.returns-then-found-head-clause-its
returns-then-found-head-clause-its g c =
    let b = c.args.self.now in
    let meaning = g.R.GoalRules.meaning b.setup.rules in
    let w = hands c.put_wait-found.new.seat in
    let a = returns-then-found-head-clause-answer g c in
    subst (λ (r : Right). IsRightOf meaning b.setup.capacity w (record r { waits = r.waits + 1 }))
    (sym c.loop-head.invariant.right)
    (right_registered meaning b.setup.capacity (hands c.args.seat.now) w c.args.right.now a.words a.more
    c.requires.fewer
    a.hands_are c.requires.right)

pub returns-clause-its : goal.returns-clause-its
returns-clause-its g c =
    let b = c.args.self.now in
    let meaning = g.R.GoalRules.meaning b.setup.rules in
    let w = hands c.drop_wait.new.seat in
    let a = returns-clause-answer g c in
    subst (λ (r : Right). IsRightOf meaning b.setup.capacity w r) (sym c.loop-head.invariant.right)
    (right_kept meaning b.setup.capacity (hands c.args.seat.now) w c.args.right.now a.words a.more a.hands_are
    c.requires.right)

pub returns-then-found-head-clause-others : goal.returns-then-found-head-clause-others
returns-then-found-head-clause-others g c = register_keeps (returns-then-found-head-clause-answer g c)

pub returns-clause-others : goal.returns-clause-others
returns-clause-others g c = finished_keeps (returns-clause-answer g c)
