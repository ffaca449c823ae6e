use Rattle.std.proofs.Common.{length, [], ◌++◌, Ok, sym, ap, arith, rules, ◌∙◌}
use Rattle.message.specs.MailLines.{mail_from}
use Rattle.message.proofs.MailWriting.{path_length, ending_length, write_is}
use Rattle.message.proofs.mail_line.write_mail_line.Goals as goal

pub put-requires-2 : goal.put-requires-2
put-requires-2 c = let h = path_length c.args.path.now (sym c.if-not-is_path.ensures) in omega arith

pub put-requires-3 : goal.put-requires-3
put-requires-3 c =
    let h = path_length c.args.path.now (sym c.if-not-is_path.ensures) in
    let e = ap length c.ending.ensures in
    let l = ending_length c.args.require_tls in
    omega arith

pub returns : goal.returns
returns c =
    let lent = c.args.out.now in
    let w = c.put-3.ensures.written (mail_from ++ c.args.path.now) lent (c.put-2.ensures.written mail_from lent (c.put.ensures.written [] lent c.new-writer.ensures.written)) in
    let h = write_is c.args.path.now c.ending.result.now c.put-3.new.self.out.now lent c.args.require_tls c.put-3.new.self.len (sym c.if-not-is_path.ensures) c.if-out-lt-LONGEST.false c.ending.ensures w in
    record { answer = ap Ok c.len.ensures ∙ h.answer; buffer = search rules }
