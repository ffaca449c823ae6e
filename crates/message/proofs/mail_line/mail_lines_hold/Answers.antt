use Rattle.message.proofs.MailLaws.{form_holds, parts_hold, place_holds, read_back, written_again, shown}
use Rattle.message.proofs.mail_line.mail_lines_hold.Goals as goal

pub returns : goal.returns
returns c = record { form = form_holds; parts = parts_hold; place = place_holds; back = read_back; again = written_again; shown = shown }
