use Rattle.std.proofs.Common.{◌∙◌, Ok, refl, ap, rules, tests}
use Rattle.std.proofs.lemmas.Iterator.Consumers.{YieldsList-at, YieldsList-from_first, YieldsList-from_filter}
use Rattle.message.specs.Lines.{lines_of}
use Rattle.message.specs.Tags.{fields, is_tls_required}
use Rattle.message.proofs.Tags.{no_field, one_field, two_fields}
use Rattle.message.proofs.tag.header_tag.Goals as goal

pub returns-in_default : goal.returns-in_default
returns-in_default c =
    no_field (fields (lines_of c.args.header.now)) c.next.result c.next.new.self c.next.ensures.steps
    (YieldsList-from_filter _ is_tls_required (YieldsList-at c.filter-found.ensures.source (YieldsList-from_first (λ x. x.now) (λ s. fields (lines_of s.rest.now)) (fields (lines_of c.args.header.now)) refl)) c.filter-found.ensures.closure (λ x b q k. search (rules, tests)))
    c.in_default.is

pub returns-in-None : goal.returns-in-None
returns-in-None c =
    ap Ok c.field_tag.ensures
    ∙ one_field (fields (lines_of c.args.header.now)) c.next.result c.next.new.self c.next.ensures.steps
    (YieldsList-from_filter _ is_tls_required (YieldsList-at c.filter-found.ensures.source (YieldsList-from_first (λ x. x.now) (λ s. fields (lines_of s.rest.now)) (fields (lines_of c.args.header.now)) refl)) c.filter-found.ensures.closure (λ x b q k. search (rules, tests)))
    c.in-Some.field c.next-2.result c.next-2.new.self c.in-Some.is c.next-2.ensures.steps c.in-None.is

pub returns-in-Some-next : goal.returns-in-Some-next
returns-in-Some-next c =
    two_fields (fields (lines_of c.args.header.now)) c.next.result c.next.new.self c.next.ensures.steps
    (YieldsList-from_filter _ is_tls_required (YieldsList-at c.filter-found.ensures.source (YieldsList-from_first (λ x. x.now) (λ s. fields (lines_of s.rest.now)) (fields (lines_of c.args.header.now)) refl)) c.filter-found.ensures.closure (λ x b q k. search (rules, tests)))
    c.in-Some.field c.in-Some-next.field-0 c.next-2.result c.next-2.new.self c.in-Some.is c.next-2.ensures.steps c.in-Some-next.is
