use Rattle.std.proofs.Common.{◌++◌, Bool, [], ◌∷◌, take, sym, ap, ◌∙◌}
use Rattle.std.specs.Result.{result_ok}
use Rattle.line.specs.Calls.{Step, piece}
use Rattle.line.specs.Peers.{kept}
use Rattle.line.specs.Transcripts.{name_in, pieces_in}
use Rattle.line.proofs.Soundness.{put_laid, short_put, noted_put}
use Rattle.line.proofs.peer_calls.PeerLineLine.put.Goals as goal

pub invariant_of-self : goal.invariant_of-self
invariant_of-self g c =
    let s = c.args.self.now in
    let t = c.write_record.new.self in
    let fit = sym c.once_put.ensures ∙ c.ok_or.ensures.ok_part ∙ ap result_ok c.in_ok-put.was in
    let d = put_laid (g.P.Peer.rule s.peer) (g.P.Peer.rule t.peer) s.out.now t.out.now s.state c.in_ok-put.put c.piece_letter.result c.args.piece.now s.within s.few s.sound
    (sym c.if-is_closed.ensures) fit c.piece_letter.ensures c.write_record.ensures.laid (ap g.P.Peer.rule c.write_record.ensures.peer) in
    let name = name_in (take s.state.used s.out.now) s.state in
    let ps = pieces_in (take s.state.used s.out.now) s.state in
    let k = ap (λ (b : Bool). kept (g.P.Peer.noted s.peer name (ps ++ (piece b c.args.piece.now ∷ []))) c.note_put-note.result) (sym c.is_covered.ensures)
    ∙ c.note_put-note.ensures name ps s.noted in
    record {
      within = d.within;
      few = d.few;
      short = short_put _ s.state _ c.args.piece.now s.within s.few fit s.short;
      sound = d.keeps;
      noted = noted_put (g.P.Peer.noted s.peer) (g.P.Peer.noted t.peer) s.out.now t.out.now s.state c.in_ok-put.put c.piece_letter.result c.args.piece.now c.note_put-note.result
          s.within s.few s.sound fit c.piece_letter.ensures c.write_record.ensures.laid (ap g.P.Peer.noted c.write_record.ensures.peer) k;
    }

pub returns-clause-after : goal.returns-clause-after
returns-clause-after g c =
    let s = c.args.self.now in
    let t = c.write_record.new.self in
    let d = put_laid (g.P.Peer.rule s.peer) (g.P.Peer.rule t.peer) s.out.now t.out.now s.state c.in_ok-put.put c.piece_letter.result c.args.piece.now s.within s.few s.sound
    (sym c.if-is_closed.ensures) (sym c.once_put.ensures ∙ c.ok_or.ensures.ok_part ∙ ap result_ok c.in_ok-put.was) c.piece_letter.ensures c.write_record.ensures.laid (ap g.P.Peer.rule c.write_record.ensures.peer) in
    sym (ap (λ (x : Step (Unit {0})). x.after) d.is)
