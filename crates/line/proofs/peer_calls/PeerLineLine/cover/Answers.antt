use Rattle.std.proofs.Common.{◌≡◌, ◌++◌, false, length, take, drop, Ok, refl, sym, ap, ◌∙◌}
use Rattle.std.proofs.lemmas.Bool.{le-ltb}
use Rattle.std.proofs.lemmas.List.{take-append-drop}
use Rattle.std.specs.Result.{result_ok}
use Rattle.line.specs.Model.{Bytes}
use Rattle.line.specs.Calls.{Step, short}
use Rattle.line.specs.declared.state.State.{State}
use Rattle.line.specs.declared.line.Standing.TheVariants.{Covered}
use Rattle.line.specs.Peers.{sized}
use Rattle.line.specs.Transcripts.{sense, shaken_in}
use Rattle.line.proofs.Soundness.{sound_as, short_quiet, noted_quiet, answered_as, cover_done, cover_not_clear, shaken_laid}
use Rattle.line.proofs.peer_calls.PeerLineLine.cover.Goals as goal

pub returns-then-not-is_clear : goal.returns-then-not-is_clear
returns-then-not-is_clear g c =
    let s = c.args.self.now in
    let old = c.args.names.now in
    let q = c.ok_or.ensures.ok_part ∙ ap result_ok c.in_ok-front.was in
    let f = simp q at c.first_chunk_mut.ensures.cases in
    let big : short (length old) ≡ false = le-ltb (length old) 4096 f.enough in
    let t = cover_not_clear (g.P.Peer.rule s.peer) (take s.state.used s.out.now) (length s.out.now) s.state old big (sym c.if-not-is_clear.ensures) in
    record {
      same = refl;
      shown = record { stands = refl; wrote = refl; ruled = refl };
      answer = sym (ap (λ (x : Step _). x.answer) t.is);
      after = sym (ap (λ (x : Step _). x.after) t.is);
      buffer = ap (λ (z : Bytes). z ++ drop 4096 old) f.same ∙ take-append-drop 4096 old ∙ sym t.holds;
    }

pub invariant_of-self : goal.invariant_of-self
invariant_of-self g c =
    let s = c.args.self.now in
    let d = sound_as s.out.now s.state c.answered-self.result _ c.answered-self.ensures s.within s.few s.sound in
    record { within = d.within; few = d.few; short = short_quiet s.state _ _ c.answered-self.ensures s.short; sound = d.keeps; noted = noted_quiet (g.P.Peer.noted s.peer) s.out.now s.state c.answered-self.result _ s.note c.answered-self.ensures s.noted }

pub returns : goal.returns
returns g c =
    let s = c.args.self.now in
    let rule = g.P.Peer.rule s.peer in
    let text = take s.state.used s.out.now in
    let old = c.args.names.now in
    let q = c.ok_or.ensures.ok_part ∙ ap result_ok c.in_ok-front.was in
    let f = simp q at c.first_chunk_mut.ensures.cases in
    let big : short (length old) ≡ false = le-ltb (length old) 4096 f.enough in
    let t = cover_done rule text (length s.out.now) s.state old big (sym c.if-not-is_clear.ensures) in
    let a = c.ask_handshake-shaken.ensures in
    let e = answered_as sized s.state c.answered-self.result Covered c.is_some.result c.ask_handshake-shaken.result (shaken_in rule text s.state) c.answered-self.ensures c.is_some.ensures a.answer in
    record {
      same = refl;
      shown = record { stands = refl; wrote = refl; ruled = refl };
      answer = ap Ok a.answer ∙ sym t.answer;
      after = ap (λ (z : State). sense rule (take z.used s.out.now) (length s.out.now) z) e ∙ sym t.after;
      buffer = ap (λ (z : Bytes). z ++ drop 4096 old) a.buffer ∙ shaken_laid rule text s.state old c.in_ok-front.front.now f.same ∙ sym t.holds;
    }
