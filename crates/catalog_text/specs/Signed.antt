-- The numbers of histograms fit 64 bits with a sign, as far as they were written.
use Rattle.std.specs.Prelude.{Option, Some, None, FitsSigned, ⊤}
use Rattle.std.specs.List.{All}
use Rattle.std.specs.Int.{w64}
use Rattle.query_core.specs.declared.histogram.Bucket.{Bucket}
use Rattle.query_core.specs.declared.histogram.Histogram.{Histogram}
use Rattle.query_core.specs.declared.catalog.ColumnInfo.{ColumnInfo}
use Rattle.query_core.specs.declared.catalog.TableInfo.{TableInfo}

-- the end of a bucket fits
abbrev pub EndFits : Bucket → Type 0
EndFits bucket = FitsSigned w64 bucket.upto

-- the least value of a histogram and the ends of its buckets fit
pub record NumbersFit (histogram : Histogram) : Type 0 where
  pub low : FitsSigned w64 histogram.low
  pub ends : All EndFits histogram.buckets

-- the numbers of the histogram fit, where there is one
abbrev pub HistogramFits : Option Histogram → Type 0
HistogramFits None = ⊤
HistogramFits (Some histogram) = NumbersFit histogram

-- the numbers of a column's histogram fit
abbrev pub ColumnFits : ColumnInfo → Type 0
ColumnFits column = HistogramFits column.histogram

-- those of each column of a table
abbrev pub TableFits : TableInfo → Type 0
TableFits table = All ColumnFits table.columns
