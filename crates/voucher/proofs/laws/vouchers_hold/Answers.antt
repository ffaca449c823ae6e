use Rattle.voucher.proofs.Held.{blind, host_names_only, all_or_none, domain_alone, union_held, line_ends, printed_policies, policy_form}
use Rattle.voucher.proofs.laws.vouchers_hold.Goals as goal

pub returns : goal.returns
returns c = record {
  blind = blind;
  host_names_only = host_names_only;
  all_or_none = all_or_none;
  domain_alone = domain_alone;
  union = union_held;
  line_ends = line_ends;
  printed_policies = printed_policies;
  policy_form = policy_form;
}
