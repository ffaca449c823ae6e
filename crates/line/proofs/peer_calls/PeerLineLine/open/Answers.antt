use Rattle.std.proofs.Common.{sym, ap, ◌∙◌}
use Rattle.std.specs.Result.{result_ok}
use Rattle.line.specs.Calls.{Step}
use Rattle.line.proofs.Soundness.{open_laid, short_open, noted_open}
use Rattle.line.proofs.peer_calls.PeerLineLine.open.Goals as goal

pub invariant_of-self : goal.invariant_of-self
invariant_of-self g c =
    let s = c.args.self.now in
    let t = c.write_record.new.self in
    let d = open_laid (g.P.Peer.rule s.peer) (g.P.Peer.rule t.peer) s.out.now t.out.now s.state c.in_ok-opened.opened c.args.host.now s.within s.few s.sound
    (sym c.if-not-is_host_name.ensures) (sym c.if-not-is_closed.ensures) (sym c.once_opened.ensures ∙ c.ok_or.ensures.ok_part ∙ ap result_ok c.in_ok-opened.was) c.write_record.ensures.laid (ap g.P.Peer.rule c.write_record.ensures.peer) in
    let fit = sym c.once_opened.ensures ∙ c.ok_or.ensures.ok_part ∙ ap result_ok c.in_ok-opened.was in
    record {
      within = d.within;
      few = d.few;
      short = short_open _ s.state _ c.args.host.now s.within s.few fit (sym c.if-not-is_host_name.ensures);
      sound = d.keeps;
      noted = noted_open (g.P.Peer.noted s.peer) (g.P.Peer.noted t.peer) s.out.now t.out.now s.state c.in_ok-opened.opened c.args.host.now c.note_opened-note.result
          s.within s.few fit c.write_record.ensures.laid (ap g.P.Peer.noted c.write_record.ensures.peer) c.note_opened-note.ensures;
    }

pub returns-clause-after : goal.returns-clause-after
returns-clause-after g c =
    let s = c.args.self.now in
    let t = c.write_record.new.self in
    let d = open_laid (g.P.Peer.rule s.peer) (g.P.Peer.rule t.peer) s.out.now t.out.now s.state c.in_ok-opened.opened c.args.host.now s.within s.few s.sound
    (sym c.if-not-is_host_name.ensures) (sym c.if-not-is_closed.ensures) (sym c.once_opened.ensures ∙ c.ok_or.ensures.ok_part ∙ ap result_ok c.in_ok-opened.was) c.write_record.ensures.laid (ap g.P.Peer.rule c.write_record.ensures.peer) in
    sym (ap (λ (x : Step (Unit {0})). x.after) d.is)
