use Rattle.std.proofs.Common.{List, Contains}
use Rattle.plain_program.specs.domain_base.declared.place.Kind.{Kind}
use Rattle.directory_rows.specs.page_store.Bitfiles.{Bitfiles}
use Rattle.directory_rows.specs.declared.led.Led.{Led}
use Rattle.name_space.specs.Trees.{AreAllOf, IsHiding, IsReached}
use Rattle.name_space.specs.declared.parts.TaggedNode.{TaggedNode}
use Rattle.name_space.proofs.BelowMissing.{IsHidingOn}
use Rattle.name_space.proofs.hidden.hide_more.Given as goal

abbrev pub invariant-loop : goal.invariant-loop
invariant-loop l = (files : Bitfiles) (nodes : List TaggedNode) (led : List Led) (of : Kind) (are : AreAllOf files nodes led) (among : Contains nodes l.one)
    → IsReached files l.one.tag of → IsHiding files nodes l.below l.count l.fn.tree
    → IsHidingOn files nodes led are l.below l.one among l.fn.tree l.tree l.next l.counter
