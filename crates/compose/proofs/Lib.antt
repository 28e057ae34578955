-- Laws of a paragraph's units, metrics and lines, as the composer's loops meet them. A file is called after the
-- function that it serves, or after what it has laws of.
--
-- units by the record that they start with; limits; what answers 8, 12, 9 and 10 say
pub mod UnitsFrom
pub mod Limits
pub mod Faults
pub mod GroupFaults
pub mod Checked
pub mod Answers
-- metrics: of some units, as they are held, stored, and the same below a record
pub mod HeldMetrics
pub mod MetricsBelow
pub mod PutMetrics
pub mod UnitMetrics
pub mod PutUnit
-- the scan that fills them
pub mod GroupScan
pub mod UnitBefore
pub mod JointAfter
pub mod FillMetrics
-- those that an edit keeps, and why they are the new list's
pub mod KeepMetrics
pub mod RecordsApart
pub mod AfterEdit
pub mod BeforeEdit
-- the breaking: the search for the longest line, by runs and by metrics, and the lines
pub mod GapSums
pub mod Sums
pub mod SearchByRuns
pub mod SearchByMetrics
pub mod LineAt
pub mod LongestLine
pub mod LinesLeft
pub mod BreakLines
-- the places
pub mod Rates
pub mod PlaceAt
pub mod MetricsPlaces
pub mod Pastes
pub mod PlaceLine
pub mod ComposeLine
pub mod ComposeLines
