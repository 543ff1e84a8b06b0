use Rattle.std.proofs.Common.{◌∙◌, ◌/◌, ℕ, List, Option, refl, sym, ap, arith, ⊎_elim}
use Rattle.std.proofs.Math.Logic.{∥∥₁_elim}
use Rattle.std.proofs.lemmas.Bool.{cases_lt}
use Rattle.std.specs.FinMap.{empty, get}
use Rattle.std.specs.Option.{option_map_or}
use Rattle.set_standing.specs.Commands.{zeros_behind}
use Rattle.set_standing.specs.Nodes.{with_page}
use Rattle.file_changes.specs.Reading.{pages_in}
use Rattle.file_changes.specs.Writing.{cleared_behind}
use Rattle.file_changes.proofs.Known.{some_file}
use Rattle.file_changes.proofs.Paged.{page_small}
use Rattle.file_changes.proofs.Twice.{has_node, stands_as, stands_still}
use Rattle.file_changes.proofs.cutting.clear_rest.Goals as goal

pub returns-in_default-clause-ok : goal.returns-in_default-clause-ok
returns-in_default-clause-ok c = λ path all entry fileset has.
    let memory = c.args.memory.now in
    let size = c.args.size in
    let n = has_node memory c.args.number c.args.tag path all entry fileset has in
    let none = c.in_default.ensures.is path all entry fileset has ∙ ap (λ o. get (option_map_or pages_in o empty) (size / 8192)) n.there in
    stands_as memory memory c.args.number c.args.tag path all entry fileset has n.node n.there memory (λ x. x) (cleared_behind size)
    (ap (λ (o : Option (List ℕ)). option_map_or (λ bytes. with_page (size / 8192) (zeros_behind size (size / 8192) bytes) n.node) o n.node) none)
    (stands_still memory c.args.number c.args.tag path all entry fileset has (λ x. x) (λ x. refl))

pub put_page-requires-clause-small : goal.put_page-requires-clause-small
put_page-requires-clause-small c = ⊎_elim (λ low. low)
    (λ high. absurd (∥∥₁_elim (some_file c.args.memory.now c.args.number c.args.tag c.requires.stands c.requires.original c.requires.file) (λ x y. absurd x) (λ s.
    let small = page_small c.args.memory.now c.args.number c.args.tag s.path s.all s.entry s.fileset s.has (c.args.size / 8192) c.in-Some.there.now (sym (c.in-Some.ensures.is s.path s.all s.entry s.fileset s.has)) in
    omega (arith, high, small))))
    (cases_lt (c.args.size / 8192) 65536)

pub returns-clause-ok : goal.returns-clause-ok
returns-clause-ok c = λ path all entry fileset has.
    let memory = c.args.memory.now in
    let size = c.args.size in
    let n = has_node memory c.args.number c.args.tag path all entry fileset has in
    let there = c.in-Some.ensures.is path all entry fileset has ∙ ap (λ o. get (option_map_or pages_in o empty) (size / 8192)) n.there in
    stands_as memory memory c.args.number c.args.tag path all entry fileset has n.node n.there c.put_page.new.memory (with_page (size / 8192) c.in_ok-after.after) (cleared_behind size)
    (ap (λ (b : List ℕ). with_page (size / 8192) b n.node) c.in_ok-after.ensures
    ∙ ap (λ (o : Option (List ℕ)). option_map_or (λ bytes. with_page (size / 8192) (zeros_behind size (size / 8192) bytes) n.node) o n.node) there)
    (c.put_page.ensures.stands path all entry fileset has)

pub returns-clause-file : goal.returns-clause-file
returns-clause-file c = λ path all entry fileset has. (c.put_page.ensures.open_still path all entry fileset has).file
