use Rattle.std.proofs.Common.{◌≡◌, ◌≤◌, ◌++◌, List, length, take, sym, ap, subst, ◌∙◌, arith}
use Rattle.disk_label.specs.domain_base.Limits.{block_bytes}
use Rattle.disk_label.specs.domain_base.declared.place.Home.{Home}
use Rattle.log_ring.specs.Header.{ArePlaces, begun, header_bytes}
use Rattle.log_ring.proofs.HeaderPages.{all_put, header_written, length-begun, one_more_place, one_more_put, overwritten-nothing}
use Rattle.log_ring.proofs.page.write_header.Goals as goal

pub loop-i-init : goal.loop-i-init
loop-i-init c = record {
  bytes = c.begin.ensures.bytes ∙ sym (overwritten-nothing (begun c.args.page.now c.args.header.now.number (length c.as_slice-homes.result.now)) 528);
  places = λ i d lt. absurd (omega (arith, lt));
}

pub loop-i-preserved : goal.loop-i-preserved
loop-i-preserved c =
    let homes = c.as_slice-homes.result.now in
    let few : length homes ≤ 60 = omega (arith, ap length c.as_slice-homes.ensures, c.requires.most) in
    record {
      bytes = one_more_put (begun c.args.page.now c.args.header.now.number (length homes)) c.loop-i.page c.put_home.new.page homes c.loop-i.i c.index-homes-i.result (length-begun c.args.page.now c.args.header.now.number (length homes) c.begin.ensures.len)
          c.loop-i-test.true few c.index-homes-i.is c.loop-i.invariant.bytes c.put_home.ensures.bytes;
      places = one_more_place homes c.loop-i.i c.index-homes-i.result c.loop-i-test.true c.index-homes-i.is c.put_home.ensures.place c.loop-i.invariant.places;
    }

pub returns-clause-bytes : goal.returns-clause-bytes
returns-clause-bytes c =
    let h = c.args.header.now in
    let homes = c.as_slice-homes.result.now in
    let few : length homes ≤ 60 = omega (arith, ap length c.as_slice-homes.ensures, c.requires.most) in
    subst (λ (l : List Home). c.loop-i.page ≡ take block_bytes c.args.page.now ++ header_bytes (record { number = h.number; homes = l })) c.as_slice-homes.ensures
    (all_put c.args.page.now c.loop-i.page h.number c.loop-i.i homes c.begin.ensures.len few c.loop-i-test.false c.loop-i.invariant.bytes)

pub returns-clause-header : goal.returns-clause-header
returns-clause-header c =
    let is = c.as_slice-homes.ensures in
    header_written c.args.page.now c.loop-i.page c.args.header.now c.begin.ensures.len (returns-clause-bytes c) c.requires
    (λ i d lt. subst (λ (l : List Home). ArePlaces l c.loop-i.i) is c.loop-i.invariant.places i d (omega (arith, lt, ap length is, c.loop-i-test.false)))
