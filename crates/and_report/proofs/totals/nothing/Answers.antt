use Rattle.std.proofs.Common.{◌≡◌, replicate, get_or, refl, rules, ap, ◌∙◌}
use Rattle.and_report.specs.Fates.{fates_of}
use Rattle.and_report.proofs.Adding.{zero_at}
use Rattle.and_report.proofs.totals.nothing.Goals as goal

pub returns : goal.returns
unfolding fates_of
returns c =
    let zeros : c.in_ok-map_err.field-0.items ≡ replicate c.len.result 0 = search rules in
    record {
      traffic = refl;
      fates = record {
        endings = refl;
        egress = c.new.ensures.empty;
        ingress = c.new-2.ensures.empty;
        route = c.new-3.ensures.empty;
        received = record { counts = λ vm below. ap (λ l. get_or l vm 0) zeros ∙ zero_at c.len.result vm };
      };
      names = search rules;
    }
