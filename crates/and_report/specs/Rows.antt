-- Rows as the code has them.
use Rattle.and_report.specs.declared.rows.Row as source
use Rattle.and_report.specs.Report.{Row}

abbrev pub row_view : source.Row → Row
row_view r = record { name = r.name.now; count = r.count }
