use Rattle.std.specs.List.{insert}
use Rattle.index_pages.specs.page_store.Homes.{pages_of}
use Rattle.index_pages.proofs.Held.{held_inserted}
use Rattle.file_world.proofs.IndexPageKept.{refused}
use Rattle.std.proofs.Common.{subst, sym}
use Rattle.index_pages.specs.Changes.{AreHeld}
use Rattle.file_world.proofs.index_page_world.insert.Goals as goal

pub returns-in_err-made : goal.returns-in_err-made
returns-in_err-made c =
    refused (pages_of c.args.world.now.pages.entries.items) (pages_of c.insert_index_page.new.pages.entries.items) c.args.world.now.space c.insert_index_page.new.space c.args.world.now.first
    c.in_err-made.field-0.0 c.requires c.in_err-made.ensures.pages c.in_err-made.ensures.err

pub returns : goal.returns
returns c =
    let homes = c.requires.homes in
    record {
      homes = insert homes c.args.number c.in_ok-made.made.home;
      are = (c.in_ok-made.ensures.inserted homes c.requires.are).are;
      held = subst (λ space. AreHeld space (insert homes c.args.number c.in_ok-made.made.home)) (sym c.in_ok-made.ensures.taken)
          (held_inserted homes c.args.number c.in_ok-made.made.home c.args.world.now.space c.requires.held c.in_ok-made.ensures.free);
    }
