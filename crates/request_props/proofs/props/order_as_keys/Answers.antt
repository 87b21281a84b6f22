use Rattle.request_props.specs.Found.{element_of}
use Rattle.request_props.proofs.Mapped.{unmap_done, unmap_push}
use Rattle.request_props.proofs.props.order_as_keys.Goals as goal

-- one more element is a key
pub loop-element-preserved : goal.loop-element-preserved
loop-element-preserved c =
    unmap_push element_of c.args.elements.now c.loop-element.keys.items c.push.new.self.items
    c.loop-element.element-index 0 c.key_of.result c.loop-element-test.true c.key_of.ensures
    c.in_ok-push.ensures.items c.loop-element.invariant

-- no element is left
pub returns : goal.returns
returns c =
    unmap_done element_of c.args.elements.now c.loop-element.keys.items c.loop-element.element-index
    c.loop-element-test.false c.loop-element.invariant
