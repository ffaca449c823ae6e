use Rattle.std.proofs.lemmas.List.{length-take}
use Rattle.std.proofs.Common.{◌+◌, ◌-◌, take, drop, refl, sym, ap, ◌∙◌, arith}
use Rattle.line.specs.Model.{Bytes}
use Rattle.line.specs.Sheet.{clear_count, covered_count}
use Rattle.line.specs.Pieces.{pieces_of}
use Rattle.line.proofs.Laid.{part_in, name_lent}
use Rattle.line.proofs.Soundness.{facts}
use Rattle.line.proofs.peer_line.PeerLine.visit_now.Goals as goal

pub overflow_add-result : goal.overflow_add-result
overflow_add-result g c = let s = c.args.self.now in let f = facts (take s.state.used s.out.now) s.state s.sound in omega (arith, f.named, f.begun, s.few)

pub slice_bounds-result-end : goal.slice_bounds-result-end
slice_bounds-result-end g c = let s = c.args.self.now in let f = facts (take s.state.used s.out.now) s.state s.sound in omega (arith, f.named, f.begun, s.within)

pub slice_bounds-result-count-2 : goal.slice_bounds-result-count-2
slice_bounds-result-count-2 g c = let s = c.args.self.now in let f = facts (take s.state.used s.out.now) s.state s.sound in omega (arith, f.begun)

pub slice_bounds-result-start-2 : goal.slice_bounds-result-start-2
slice_bounds-result-start-2 g c = let s = c.args.self.now in let f = facts (take s.state.used s.out.now) s.state s.sound in omega (arith, f.begun)

pub invariant_of-result : goal.invariant_of-result
invariant_of-result g c =
    let s = c.args.self.now in
    let f = facts (take s.state.used s.out.now) s.state s.sound in
    let p = sym (part_in s.state.start s.state.used s.out.now f.begun) in
    let b = length-take (s.state.at + s.state.long - s.state.at) (drop s.state.at s.out.now) in
    record {
      short = omega (arith, s.short);
      clears = f.clears ∙ ap (λ (z : Bytes). clear_count (pieces_of z)) p;
      covereds = f.covereds ∙ ap (λ (z : Bytes). covered_count (pieces_of z)) p;
    }

pub returns : goal.returns
returns g c =
    let s = c.args.self.now in
    let f = facts (take s.state.used s.out.now) s.state s.sound in
    record {
      number = refl;
      name = name_lent s.state.at s.state.long s.state.used s.out.now (omega (arith, f.named, f.begun));
      pieces = part_in s.state.start s.state.used s.out.now f.begun;
    }
