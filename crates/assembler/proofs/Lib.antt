pub mod ExitsLayout
pub mod ExitsFilling
pub mod ScanningCells
pub mod ScanningSimulation
pub mod Scanning
