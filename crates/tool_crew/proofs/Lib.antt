mod Closing
mod Hosts
mod Starting
