-- The answer's words are stored under the right, and then the head is closed.
use Rattle.std.proofs.Common.{◌≡◌, ◌*◌, ◌<◌, ◌≤◌, length, sym, ap, subst, ◌∙◌}
use Rattle.board_rule.specs.Words.{head_word}
use Rattle.board_rule.specs.May.{HasRight, MayClose}
use Rattle.board_rule.specs.Seats.{Each, fresh_right, with_cost, with_node, node_stored}
use Rattle.board_rule.specs.Seats.{finished}
use Rattle.board_rule.specs.declared.hands.Hands.{Hands}
use Rattle.board_rule.proofs.Rights.{rights_at}
use Rattle.goal_board.specs.Seats.{hands}
use Rattle.board_rule.specs.Waiters.{head_of}
use Rattle.goal_board.specs.RightCalls.{finishes, Wakes}
use Rattle.goal_board.proofs.Finishing.{held_fresh, with_first, with_second, cost_among, node_among, who_among}
use Rattle.goal_board.proofs.Finishing.{has_right, left_over, once_held, open_before, answer_stored}
use Rattle.goal_board.proofs.OthersKept.{finish_keeps}
use Rattle.goal_board.proofs.board.Board.finish.Goals as goal

pub store_cost-requires-clause-may : goal.store_cost-requires-clause-may
store_cost-requires-clause-may g c κs within =
    has_right c.args.self.now.setup.capacity (hands c.args.seat.now).rights (fresh_right c.args.right.place)
    c.requires.right.near (held_fresh (hands c.args.seat.now).rights c.args.right.place c.args.right.waits
    c.requires.waits c.requires.right.held)

pub store_node-requires-clause-may : goal.store_node-requires-clause-may
store_node-requires-clause-may g c κs within =
    let v = hands c.args.seat.now in
    let p = c.args.right.place in
    subst (λ (h : Hands _). HasRight c.args.self.now.setup.capacity h.rights p) (sym c.store_cost.ensures.hands)
    (has_right c.args.self.now.setup.capacity (with_cost p c.args.answer.cost v.rights)
    (with_first p c.args.answer.cost)
    c.requires.right.near
    (cost_among v.rights p c.args.answer.cost
    (held_fresh v.rights p c.args.right.waits c.requires.waits c.requires.right.held)))

pub store_who-requires-clause-may : goal.store_who-requires-clause-may
store_who-requires-clause-may g c κs within =
    let v = hands c.args.seat.now in
    let p = c.args.right.place in
    let a = c.args.answer in
    subst (λ (h : Hands _). HasRight c.args.self.now.setup.capacity h.rights p)
    (sym (c.store_node.ensures.hands ∙ ap (λ (h : Hands _). node_stored h p a.node) c.store_cost.ensures.hands))
    (has_right c.args.self.now.setup.capacity (with_node p a.node (with_cost p a.cost v.rights))
    (with_second p a.cost a.node)
    c.requires.right.near
    (node_among (with_cost p a.cost v.rights) p a.cost a.node
    (cost_among v.rights p a.cost (held_fresh v.rights p c.args.right.waits c.requires.waits
    c.requires.right.held))))

pub close_head-head-requires-clause-may : goal.close_head-head-requires-clause-may
close_head-head-requires-clause-may g c κs within =
    let v = hands c.args.seat.now in
    let p = c.args.right.place in
    let a = c.args.answer in
    let r = c.requires.right in
    let stored = answer_stored v p c.args.worker a.cost a.node c.store_cost.ensures.hands c.store_node.ensures.hands
    c.store_who.ensures.hands in
    subst (λ (h : Hands _). MayClose (g.R.GoalRules.meaning c.args.self.now.setup.rules)
    c.args.self.now.setup.capacity h p
    c.args.worker a.cost a.node) (sym stored) (record {
      near = r.near;
      stored = who_among (with_node p a.node (with_cost p a.cost v.rights)) p c.args.worker a.cost a.node
          (node_among (with_cost p a.cost v.rights) p a.cost a.node
          (cost_among v.rights p a.cost (held_fresh v.rights p c.args.right.waits c.requires.waits r.held)));
      goal = c.args.right.goal;
      some_goal = r.some_goal;
      stands = r.stands;
      is_goal = r.is_goal;
      few = c.requires.worker;
      promise = c.requires.promise;
      answer = c.requires.answer;
      free = c.requires.seat.free.no_wait;
      walked = c.requires.seat.free.no_walk;
    })

pub wake-requires-clause-no_wait : goal.wake-requires-clause-no_wait
wake-requires-clause-no_wait g c κs within =
    ap (λ (h : Hands _). h.pending) c.close_head-head.ensures.told.leaves.hands_are
    ∙ c.store_who.ensures.seat.free.no_wait

pub wake-requires-clause-named : goal.wake-requires-clause-named
wake-requires-clause-named g c κs within =
    let told = c.close_head-head.ensures.told in told.named
    ∙ ap (λ (h : Hands _). head_of h.walk.waiters) (sym told.leaves.hands_are)

pub wake-requires-clause-near : goal.wake-requires-clause-near
wake-requires-clause-near g c κs within =
    let told = c.close_head-head.ensures.told in
    subst (λ n. Each (λ q. q < 8 * n) (hands c.close_head-head.new.seat).walk.waiters)
    c.store_who.ensures.seat.over.its_capacity
    (subst (λ (h : Hands _). Each (λ q. q < 8 * (hands c.store_who.new.seat).capacity) h.walk.waiters)
    (sym told.leaves.hands_are) told.near)

pub wake-requires-clause-few : goal.wake-requires-clause-few
wake-requires-clause-few g c κs within =
    let told = c.close_head-head.ensures.told in
    subst (λ n. length (hands c.close_head-head.new.seat).walk.waiters ≤ 8 * n)
    c.store_who.ensures.seat.over.its_capacity
    (subst (λ (h : Hands _). length h.walk.waiters ≤ 8 * (hands c.store_who.new.seat).capacity)
    (sym told.leaves.hands_are)
    told.few)

pub returns-clause-answer : goal.returns-clause-answer
returns-clause-answer g c =
    let v = hands c.args.seat.now in
    let p = c.args.right.place in
    let a = c.args.answer in
    let told = c.close_head-head.ensures.told in
    let stored = answer_stored v p c.args.worker a.cost a.node c.store_cost.ensures.hands c.store_node.ensures.hands
    c.store_who.ensures.hands in
    let few = once_held g.R.GoalRules.meaning c.args.self.now.setup.rules c.args.self.now.setup.capacity
    (hands c.store_who.new.seat) (head_word p) c.close_head-head.result p
    c.store_who.ensures.seat.over told.leaves.moment c.requires.right.near in
    let is : hands c.close_head-head.new.seat ≡ finishes v p c.args.worker a.cost a.node told.waiters =
    told.leaves.hands_are
    ∙ ap (λ (h : Hands _). finished h p c.args.worker a.cost a.node told.waiters) stored
    ∙ ap (λ (rights : _). record (finishes v p c.args.worker a.cost a.node told.waiters) { rights = rights })
    (left_over v.rights p c.args.worker a.cost a.node (subst (λ (h : Hands _). rights_at p h.rights ≤ 1) stored few)) in
    record {
      waiters = told.waiters;
      wakes = subst (λ (h : Hands _). Wakes c.args.self.now.setup.capacity h c.wake.result (hands c.wake.new.seat)) is
          c.wake.ensures.answer;
      lone = open_before g.R.GoalRules.meaning c.args.self.now.setup.rules c.args.self.now.setup.capacity v
          (hands c.store_who.new.seat) p c.args.worker a.cost a.node c.close_head-head.result
          c.store_who.ensures.seat.over stored told.leaves.moment c.requires.right.near
          (held_fresh v.rights p c.args.right.waits c.requires.waits c.requires.right.held);
    }

pub returns-clause-others : goal.returns-clause-others
returns-clause-others g c = finish_keeps (returns-clause-answer g c)
