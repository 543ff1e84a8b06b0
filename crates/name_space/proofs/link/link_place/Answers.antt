use Rattle.std.proofs.Common.{◌≡◌, ◌∙◌, ◌<◌, Some, ap, subst, arith}
use Rattle.plain_program.specs.domain_base.Limits.{max_links}
use Rattle.plain_program.specs.domain_base.declared.place.Kind.TheVariants.{File}
use Rattle.directory_rows.specs.page_store.Bitfiles.{links_at}
use Rattle.name_space.specs.Names.{led_to}
use Rattle.name_space.proofs.LinkChecks.{link_allowed, link_full, place_refused, source_refused}
use Rattle.name_space.proofs.Spots.{has_names, led_path}
use Rattle.name_space.proofs.link.link_place.Goals as goal

pub returns-in-Err : goal.returns-in-Err
returns-in-Err g c = λ slot original.
    let files = g.S.BitfileSet.files c.args.set.now in
    source_refused files slot original c.args.path.now c.args.to.now c.in-Err.refusal (c.in-Err.ensures.spot slot original)

pub free_place-requires-clause-names : goal.free_place-requires-clause-names
free_place-requires-clause-names g c = has_names (g.S.BitfileSet.files c.args.set.now) c.requires.names

pub returns-in-Err-free_place : goal.returns-in-Err-free_place
returns-in-Err-free_place g c = λ slot original.
    let files = g.S.BitfileSet.files c.args.set.now in
    place_refused files slot original c.args.path.now c.args.to.now (c.in-Ok.ensures.spot slot original).0 c.in-Err-free_place.refusal (c.in-Err-free_place.ensures slot original.names)

pub returns-then-links-lt-MAX_LINKS : goal.returns-then-links-lt-MAX_LINKS
returns-then-links-lt-MAX_LINKS g c = λ slot original.
    let files = g.S.BitfileSet.files c.args.set.now in
    let path = c.args.path.now in
    let spot = c.in-Ok.spot in
    let at = c.in-Ok.ensures.spot slot original in
    let place = c.in-Ok-free_place.ensures slot original.names in
    let led : led_to files path ≡ Some (spot.tag, File) = led_path files path c.requires.some spot.dir at.1 ∙ at.2 ∙ ap (λ k. Some (spot.tag, k)) c.in-Ok.ensures.kind in
    let few : links_at files spot.tag < max_links = subst (λ n. n < max_links) c.links.ensures c.if-links-lt-MAX_LINKS.true in (
      link_allowed files slot original path c.args.to.now at.0 place.0 spot.tag led few,
      led,
      c.in-Ok.ensures.bare,
      few,
      place.1,
      place.2,
    )

pub returns-else-links-lt-MAX_LINKS : goal.returns-else-links-lt-MAX_LINKS
returns-else-links-lt-MAX_LINKS g c = λ slot original.
    let files = g.S.BitfileSet.files c.args.set.now in
    let path = c.args.path.now in
    let spot = c.in-Ok.spot in
    let at = c.in-Ok.ensures.spot slot original in
    let place = c.in-Ok-free_place.ensures slot original.names in
    let led : led_to files path ≡ Some (spot.tag, File) = led_path files path c.requires.some spot.dir at.1 ∙ at.2 ∙ ap (λ k. Some (spot.tag, k)) c.in-Ok.ensures.kind in
    link_full files slot original path c.args.to.now at.0 place.0 spot.tag led (omega (arith, c.if-links-lt-MAX_LINKS.false, c.links.ensures))
