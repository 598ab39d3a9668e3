use Rattle.and_plain_fates.proofs.arrival.is_arrival_just.Goals as goal

pub returns-in-Running : goal.returns-in-Running
returns-in-Running c = record { ok = rw c.in-Running.is c.is_delivery_just.ensures.ok }

pub returns-in-Blackout : goal.returns-in-Blackout
returns-in-Blackout c = record { ok = rw c.in-Blackout.is c.is_blackout_just.ensures.ok }

pub returns-in-Hairpin : goal.returns-in-Hairpin
returns-in-Hairpin c = record { ok = rw c.in-Hairpin.is c.is_hairpin_just.ensures.ok }

pub returns-in-Absent : goal.returns-in-Absent
returns-in-Absent c = record { ok = rw c.in-Absent.is c.is_absence_just.ensures.ok }
