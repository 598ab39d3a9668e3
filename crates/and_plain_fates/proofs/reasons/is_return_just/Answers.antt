use Rattle.and_plain_fates.proofs.reasons.is_return_just.Goals as goal

pub returns-in-NoOwner : goal.returns-in-NoOwner
returns-in-NoOwner c = record { ok = rw c.in-NoOwner.is c.is_ownerless.ensures.ok }
