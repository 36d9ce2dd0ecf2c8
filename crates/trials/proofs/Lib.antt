-- The lists of a trial pass, so there is a file of them.
pub mod Extended
-- A plan of a trial is a choice that covers the first rows, and back.
pub mod Appended
-- What a trial's answer says of the file.
pub mod Searched
-- What a desk reads of the finding.
pub mod Told
