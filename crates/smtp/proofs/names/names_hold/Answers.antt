use Rattle.smtp.proofs.Held as held
use Rattle.smtp.proofs.names.names_hold.Goals as goal

pub returns : goal.returns
returns c =
    record {
      parts_join = held.parts_join;
      parts_only = held.parts_only;
      same_is_lowered = held.same_is_lowered;
      host_name_is_labels = held.host_name_is_labels;
      covers_exactly = held.covers_exactly;
    }
